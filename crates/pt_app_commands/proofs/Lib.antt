mod RefusalLemmas
mod RehearsalLemmas
mod TaskLemmas
