pub mod EntryLemmas
pub mod FieldLemmas
pub mod ReplyLemmas
pub mod RequestLemmas
pub mod SettingLemmas
pub mod TableLemmas
