-- What is read from bytes. These definitions do not say that the bytes hold nothing else: the program spells what it
-- read and compares.
use Rattle.std.specs.Prelude.{◌≡◌, ℕ, List, ◌++◌, Option, Some, Bool, true, false, slice_set}
use Rattle.pt_desk_requests.specs.declared.request.Write.{Write}
use Rattle.pt_rights_files.specs.declared.entry.Entry.{Entry}
use Rattle.pt_desk_spelling.specs.Ranges.{IsEntry, IsRequest}
use Rattle.pt_desk_spelling.specs.Requests.{entry_number, particulars_of, tag_of, fields_of}

-- if the bytes begin with the spelling of a value that fits, that value is taken, and the bytes after it are left
abbrev pub Takes : {A : Type 0} → (A → List ℕ) → (A → Type 0) → List ℕ → Option A → List ℕ → Type 0
Takes written Fits bytes found left =
    (x : _) (later : List ℕ) → Fits x → bytes ≡ written x ++ later → (found ≡ Some x) × (left ≡ later)

-- if the bytes are the spelling of a value that fits, that value is found
abbrev pub Finds : {A : Type 0} → (A → List ℕ) → (A → Type 0) → List ℕ → Option A → Type 0
Finds written Fits bytes found = (x : _) → Fits x → bytes ≡ written x → found ≡ Some x

-- if a request of this kind, in its ranges, has these fields, it is found
abbrev pub FindsRequest : ℕ → List ℕ → Option Write → Type 0
FindsRequest tag fields found =
    (asked : Write) → IsRequest asked → tag_of asked ≡ tag → fields ≡ fields_of asked → found ≡ Some asked

-- if an entry of this kind, in its ranges, has these particulars, it is found
abbrev pub FindsEntry : ℕ → List ℕ → Option Entry → Type 0
FindsEntry kind bytes found =
    (entered : Entry) → IsEntry entered → entry_number entered ≡ kind → bytes ≡ particulars_of entered
    → found ≡ Some entered

-- the set of weekdays, with one weekday marked or left as it was
abbrev pub mark : List Bool → ℕ → Bool → List Bool
mark days number true = slice_set days number true
mark days number false = days
