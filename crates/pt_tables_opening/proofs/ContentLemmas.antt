-- A table that had no records has what is put, and one whose records are put again has the new ones.
use Rattle.std.proofs.Common.{◌≡◌, ◌++◌, ◌<◌, ℕ, List, [], ◌∷◌, append_assoc, append-nil, refl, sym, ap, subst, ◌∙◌}
use Rattle.pt_base_records.specs.Records.{Each, Edit, IsInOrder, edited, put, put_all, take_all}
use Rattle.pt_base_records.proofs.RecordLemmas.{put_over, put_past}
use Rattle.pt_tables_soundness.proofs.PairedLemmas.{Paired}
use Rattle.pt_tables_opening.specs.Gathered.{IsFitting, PutsInOrder}

-- ---- a table of nothing but what was put

put_last : {A : Type 0} (key : A → ℕ) (new : A) (xs : List A) → Each (λ x. key x < key new) xs → put key new xs ≡ xs ++ new ∷ []
put_last key new [] low = refl
put_last key new (x ∷ xs) low = put_past key new x xs low.0 ∙ ap (λ l. x ∷ l) (put_last key new xs low.1)

pub mid : {A : Type 0} (P : A → Type 0) (done : List A) (x : A) (xs : List A) → Each P (done ++ x ∷ xs) → P x
mid P [] x xs each = each.0
mid P (d ∷ done) x xs each = mid P done x xs each.1

below : {A : Type 0} (key : A → ℕ) (done : List A) (x : A) (xs : List A) → IsInOrder key (done ++ x ∷ xs) → Each (λ y. key y < key x) done
below key [] x xs order = tt
below key (d ∷ done) x xs order = (mid (λ y. key d < key y) done x xs order.0, below key done x xs order.1)

put_onto : {A : Type 0} (key : A → ℕ) (xs done : List A) → IsInOrder key (done ++ xs) → put_all key xs done ≡ done ++ xs
put_onto key [] done order = sym (append-nil done)
put_onto key (x ∷ xs) done order =
    let joined = append_assoc done (x ∷ []) xs in
    ap (put_all key xs) (put_last key x done (below key done x xs order))
    ∙ put_onto key xs (done ++ x ∷ []) (subst (IsInOrder key) (sym joined) order) ∙ joined

put_none : {A : Type 0} (key : A → ℕ) (xs : List A) → IsInOrder key xs → put_all key xs [] ≡ xs
put_none key xs order = put_onto key xs [] order

-- ---- a table that was empty has what is put

pub alone : {A : Type 0} (key : A → ℕ) (edit : Edit A) (xs : List A) → PutsInOrder key edit → xs ≡ [] → edited key edit xs ≡ edit.puts
alone key edit xs puts none =
    ap (λ l. put_all key edit.puts (take_all key l xs)) puts.0 ∙ ap (put_all key edit.puts) none ∙ put_none key edit.puts puts.1

pub laid_put : {A : Type 0} (key : A → ℕ) (Fits : A → Type 0) (edit : Edit A) (xs : List A) → xs ≡ [] → IsFitting key Fits edit
    → IsInOrder key (edited key edit xs) × Each Fits (edited key edit xs)
laid_put key Fits edit xs none fits =
    let same = sym (alone key edit xs fits.puts none) in (subst (IsInOrder key) same fits.puts.1, subst (Each Fits) same fits.each)

pub rows_put : {A : Type 0} (key : A → ℕ) (P : List A → Type 0) (edit : Edit A) (xs : List A) → xs ≡ [] → PutsInOrder key edit → P edit.puts → P (edited key edit xs)
rows_put key P edit xs none puts p = subst P (sym (alone key edit xs puts none)) p

-- ---- and one whose records are put again has the new ones

put_mid : {A : Type 0} (key : A → ℕ) (done : List A) (new x : A) (xs : List A) → Each (λ d. key d < key new) done → key x ≡ key new → put key new (done ++ x ∷ xs) ≡ done ++ new ∷ xs
put_mid key [] new x xs low same = put_over key new x xs same
put_mid key (d ∷ done) new x xs low same = put_past key new d (done ++ x ∷ xs) low.0 ∙ ap (λ l. d ∷ l) (put_mid key done new x xs low.1 same)

put_again : {A : Type 0} (key : A → ℕ) (news xs done : List A) → Paired (λ new x. key x ≡ key new) news xs → IsInOrder key (done ++ news) → put_all key news (done ++ xs) ≡ done ++ news
put_again key [] [] done same order = refl
put_again key [] (x ∷ xs) done same order = absurd same
put_again key (new ∷ news) [] done same order = absurd same
put_again key (new ∷ news) (x ∷ xs) done same order =
    let joined = append_assoc done (new ∷ []) in
    ap (put_all key news) (put_mid key done new x xs (below key done new news order) same.0 ∙ sym (joined xs))
    ∙ put_again key news xs (done ++ new ∷ []) same.1 (subst (IsInOrder key) (sym (joined news)) order) ∙ joined news

pub anew : {A : Type 0} (key : A → ℕ) (edit : Edit A) (xs : List A) → PutsInOrder key edit → Paired (λ new x. key x ≡ key new) edit.puts xs → edited key edit xs ≡ edit.puts
anew key edit xs puts same = ap (λ l. put_all key edit.puts (take_all key l xs)) puts.0 ∙ put_again key edit.puts xs [] same puts.1
