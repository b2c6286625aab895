-- A case file that is built from entries, one after another.
use Rattle.std.proofs.Common.{◌≡◌, ℕ, ◌+◌, ◌-◌, ◌<◌, suc, List, [], ◌∷◌, ◌++◌, length, take, map, sym, ap, ◌∙◌, arith, append_assoc, length-append}
use Rattle.std.proofs.lemmas.List.{append-nil}
use Rattle.pt_rights_files.specs.declared.entry.Entered.{Entered}
use Rattle.pt_desk_rules.specs.declared.change.FiledEntry.{FiledEntry}

abbrev pub entered_of : FiledEntry → Entered
entered_of filed = filed.entered

-- the file after as many of these entries as it has room for
abbrev pub filled : List Entered → List FiledEntry → List Entered
filled file rest = file ++ map entered_of (take (200 - length file) rest)

room_for_one : (n : ℕ) → n < 200 → 200 - n ≡ suc (200 - (n + 1))
room_for_one n lt = omega arith

-- one entry more
pub filled-more : (file : List Entered) (filed : FiledEntry) (rest : List FiledEntry) → length file < 200 → filled (file ++ filed.entered ∷ []) rest ≡ filled file (filed ∷ rest)
filled-more file filed rest lt =
    let longer : length (file ++ filed.entered ∷ []) ≡ length file + 1 = length-append file (filed.entered ∷ []) in
    append_assoc file (filed.entered ∷ []) (map entered_of (take (200 - length (file ++ filed.entered ∷ [])) rest))
    ∙ ap (λ n. file ++ filed.entered ∷ map entered_of (take (200 - n) rest)) longer
    ∙ sym (ap (λ n. file ++ map entered_of (take n (filed ∷ rest))) (room_for_one (length file) lt))

no_room : (n : ℕ) → n ≡ 200 → 200 - n ≡ 0
no_room n is = omega arith

-- a full file takes no further entry
pub filled-whole : (file : List Entered) (rest : List FiledEntry) → length file ≡ 200 → filled file rest ≡ file
filled-whole file rest full = ap (λ n. file ++ map entered_of (take n rest)) (no_room (length file) full) ∙ append-nil file
