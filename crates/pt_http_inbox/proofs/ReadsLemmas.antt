-- Reads one after another.
use Rattle.std.proofs.Common.{◌≡◌, ℕ, List, [], ◌++◌, Option, Some, None, unwrap_or, refl, sym, ap, ◌∙◌, append_assoc}
use Rattle.std.proofs.Common.{append-nil, arith, length-append}
use Rattle.std.specs.Io.KnownBytes.{Consumes, Keeps}
use Rattle.pt_http_inbox.specs.Inbox.{buffer, reader_of, ReadsOn}
use Rattle.pt_http_inbox.specs.declared.inbox.Inbox.{Inbox}

consumes_none : (known : Option (List ℕ)) → Consumes known known []
consumes_none None = tt
consumes_none (Some bytes) = refl

consumes_then : (a b c : Option (List ℕ)) (first second : List ℕ) → Consumes a b first → Consumes b c second
    → Consumes a c (first ++ second)
consumes_then None b c first second x y = tt
consumes_then (Some xs) None c first second x y = absurd x
consumes_then (Some xs) (Some ys) None first second x y = absurd y
consumes_then (Some xs) (Some ys) (Some zs) first second x y = x ∙ ap (λ t. first ++ t) y
    ∙ sym (append_assoc first second zs)

-- nothing was read
pub reads_none : {R : Type 0} (remaining : R → Option (List ℕ)) (inbox : Inbox R) → ReadsOn remaining inbox inbox
reads_none remaining inbox = record {
  more = [];
  consumed = consumes_none (remaining (reader_of inbox));
  appended = sym (append-nil (buffer inbox));
  counted = omega arith;
}

-- some was read, and then some more
pub reads_then : {R : Type 0} (remaining : R → Option (List ℕ)) (a b c : Inbox R) → ReadsOn remaining a b
    → ReadsOn remaining b c → ReadsOn remaining a c
reads_then remaining a b c x y = record {
  more = x.more ++ y.more;
  consumed = consumes_then (remaining (reader_of a)) (remaining (reader_of b)) (remaining (reader_of c)) x.more y.more
      x.consumed y.consumed;
  appended = y.appended ∙ ap (λ t. t ++ y.more) x.appended ∙ append_assoc (buffer a) x.more y.more;
  counted = omega (arith, x.counted, y.counted, length-append x.more y.more);
}

-- known bytes that stayed, and stayed again
pub keeps_then : (a b c : Option (List ℕ)) → Keeps a b → Keeps b c → Keeps a c
keeps_then None b c x y = tt
keeps_then (Some xs) None c x y = absurd x
keeps_then (Some xs) (Some ys) None x y = absurd y
keeps_then (Some xs) (Some ys) (Some zs) x y = y ∙ x

-- known bytes stay
pub keeps_same : (a : Option (List ℕ)) → Keeps a a
keeps_same None = tt
keeps_same (Some xs) = refl

-- known bytes that stayed, and then were consumed
pub consumes_kept : (a b c : Option (List ℕ)) (bytes : List ℕ) → Keeps a b → Consumes b c bytes → Consumes a c bytes
consumes_kept None b c bytes x y = tt
consumes_kept (Some xs) None c bytes x y = absurd x
consumes_kept (Some xs) (Some ys) None bytes x y = absurd y
consumes_kept (Some xs) (Some ys) (Some zs) bytes x y = sym x ∙ y

known_rest : (before after : Option (List ℕ)) (old new more left : List ℕ) → Consumes before after more
    → new ≡ old ++ more → before ≡ Some left
    → (rest : List ℕ) × (after ≡ Some rest) × (old ++ left ≡ new ++ rest)
known_rest None after old new more left consumed appended is = absurd (cc)
known_rest (Some xs) None old new more left consumed appended is = absurd consumed
known_rest (Some xs) (Some ys) old new more left consumed appended is =
    let same : left ≡ xs = sym (ap (λ o. unwrap_or o []) is) in
    (ys, refl, rw (same, consumed, appended) (sym (append_assoc old more ys)))

-- If the reader's bytes are known, the held bytes and those still to be read are together the same before and after.
pub reads_known : {R : Type 0} (remaining : R → Option (List ℕ)) (old new : Inbox R) (left : List ℕ)
    → ReadsOn remaining old new
    → remaining (reader_of old) ≡ Some left
    → (rest : List ℕ) × (remaining (reader_of new) ≡ Some rest) × (buffer old ++ left ≡ buffer new ++ rest)
reads_known remaining old new left reads is = known_rest (remaining (reader_of old)) (remaining (reader_of new))
    (buffer old) (buffer new) reads.more left reads.consumed reads.appended is
