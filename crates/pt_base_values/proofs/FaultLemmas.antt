-- Which fault a result has.
use Rattle.std.proofs.Common.{◌≡◌, ℕ, Result, Ok, Err, ap, sym, ◌∙◌}
use Rattle.pt_base_values.specs.declared.fault.Cause.{Cause}
use Rattle.pt_base_values.specs.declared.fault.Fault.{Fault}
use Rattle.pt_base_values.specs.Fault.{code_of, fault, fault_at}

code_in : {A : Type 0} → Result A Fault → ℕ
code_in (Ok _) = 0
code_in (Err f) = f.code

-- the code of a fault that a result has
code_same : {A : Type 0} (f : Fault) (why : Cause) → ◌≡◌ {A = Result A Fault} (Err f) (Err (fault why)) → f.code ≡ code_of why
unfolding code_in
code_same f why same = ap code_in same

-- a fault has one code
pub no_other_fault : {A : Type 0} (f : Fault) (has why : Cause) → f.code ≡ code_of has → ¬ (code_of has ≡ code_of why)
    → ◌≡◌ {A = Result A Fault} (Err f) (Err (fault why)) → ⊥
no_other_fault {A} f has why is other same = other (sym is ∙ code_same {A = A} f why same)

abbrev made : ℕ → ℕ → Fault
made code row = record { code = code; row = row }

-- a fault is its code and its row
pub fault-is : (f : Fault) (why : Cause) → f.code ≡ code_of why → f.row ≡ 0 → f ≡ fault why
fault-is f why is row = ap (λ (c : ℕ). made c f.row) is ∙ ap (λ (r : ℕ). fault_at why r) row

pub ok_is_no_fault : {A : Type 0} (x : A) (f : Fault) → ◌≡◌ {A = Result A Fault} (Ok x) (Err f) → ⊥
ok_is_no_fault x f same = cc

-- a code is not that of two causes with different codes
pub other_code : (code : ℕ) (one other : Cause) → ¬ (code_of one ≡ code_of other) → code ≡ code_of one
    → code ≡ code_of other → ⊥
other_code code one other differ is also = differ (sym is ∙ also)

-- a fault of one cause is not that of another
pub other_fault : (f : Fault) (one other : Cause) → ¬ (code_of one ≡ code_of other) → f ≡ fault one → f ≡ fault other → ⊥
other_fault f one other differ is also =
    other_code f.code one other differ (ap (λ (it : Fault). it.code) is) (ap (λ (it : Fault). it.code) also)
