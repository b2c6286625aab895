-- How clap reads the program's words.
use Rattle.std.proofs.Common.{◌≡◌, List, [], Result, inl, inr, refl, subst, true}
use Rattle.clap.specs.Words.{App, FailsBy, HasKind, IsAmong, Text, fault_of, is_simple, is_simple_and_free, kind_of}
use Rattle.clap.specs.declared.error.kind.ErrorKind.TheVariants.{OutOfMemory}
use Rattle.clap.specs.declared.error.Error.{Error}
use Rattle.clap.specs.Kinds.{Kinds}
use Rattle.clap.proofs.OnLiterals.{clap_on_literals}
use Rattle.pt_app_command_line.specs.CommandLine.{desk_words}

pub desk_is_simple : is_simple desk_words ≡ true
unfolding clap_on_literals
desk_is_simple = refl

pub desk_is_free : is_simple_and_free desk_words ≡ true
unfolding clap_on_literals
desk_is_free = refl

-- words are refused exactly by their faults
pub refused_by_faults : {T : Type 0} (app : App) (words : List Text) (read : Result T Error) → app ≡ desk_words
    → (is_simple_and_free app ≡ true → FailsBy (fault_of app words) read)
    → FailsBy (fault_of desk_words words) read
refused_by_faults app words read is kinds = (rw is at kinds) desk_is_free

-- if the words have no fault, only out of memory refuses them
pub memory_alone : (kinds : Kinds) (error : Error) → kinds ≡ [] → HasKind kinds error → kind_of error ≡ OutOfMemory
memory_alone kinds error none (inl memory) = memory
memory_alone kinds error none (inr among) = absurd (subst (IsAmong (kind_of error)) none among)
