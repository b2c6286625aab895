-- The result of one connection.
use Rattle.std.proofs.Common.{◌≡◌, ◌⊎◌, List, ℕ, Option, Some, None, Result, Ok, Err, OnErr, ap, arith, inl, inr, subst, sym, ◌∙◌}
use Rattle.pt_base_values.specs.declared.fault.Cause.TheVariants as cause
use Rattle.pt_base_values.specs.Fault.{code_of, fault}
use Rattle.pt_base_values.proofs.FaultLemmas.{other_code, other_fault}
use Rattle.pt_base_values.specs.declared.fault.Fault.{Fault}
use Rattle.pt_base_clock.specs.LocalTime.{IsZoneRule}
use Rattle.pt_http_exchange.specs.Exchange.{IsUnanswered}
use Rattle.pt_app_serve.specs.Serving.{EndsConnection, EndsServing}

-- what is so only of an error is so of a connection that was accepted
accepted : {S E : Type 0} (connection : Result S E) (stream : S) (Fact : Type 0) → connection ≡ Ok stream
    → OnErr connection Fact
accepted {S} {E} connection stream Fact is = subst (λ (it : Result S E). OnErr it Fact) (sym is) tt

refused : {S E : Type 0} (connection : Result S E) (Fact : Type 0) → Fact → OnErr connection Fact
refused (Ok stream) Fact so = tt
refused (Err error) Fact so = so

-- the connection was not accepted
pub ends_refused : {S E : Type 0} (connection : Result S E) (zone : List ℕ) (SameStore SamePort : Type 0)
    (error : Fault) → error ≡ fault cause.ReadFailed → SameStore
    → EndsConnection connection zone SameStore SamePort (Ok (Some error))
ends_refused connection zone SameStore SamePort error read same = record {
  refused = refused connection _ (cc);
  unread = λ _. same;
  failed = inl read;
  error = tt;
  ended = tt;
  no_rule = λ is. absurd (cc);
}

-- its request is answered
pub ends_well : {S E : Type 0} (connection : Result S E) (stream : S) (zone : List ℕ) (SameStore SamePort : Type 0)
    → connection ≡ Ok stream → EndsConnection connection zone SameStore SamePort (Ok None)
ends_well connection stream zone SameStore SamePort is = record {
  refused = accepted connection stream _ is;
  unread = λ is. absurd (cc);
  failed = tt;
  error = tt;
  ended = tt;
  no_rule = λ is. absurd (cc);
}

-- it failed
pub ends_failed : {S E : Type 0} (connection : Result S E) (stream : S) (zone : List ℕ) (SameStore SamePort : Type 0)
    (error : Fault) → connection ≡ Ok stream → (error ≡ fault cause.ReadFailed) ⊎ (error ≡ fault cause.WriteFailed)
    → (error ≡ fault cause.ReadFailed → SameStore)
    → EndsConnection connection zone SameStore SamePort (Ok (Some error))
ends_failed connection stream zone SameStore SamePort error is failed unread = record {
  refused = accepted connection stream _ is;
  unread = λ is. (let read : error ≡ fault cause.ReadFailed = cc in unread read);
  failed = failed;
  error = tt;
  ended = tt;
  no_rule = λ is. absurd (cc);
}

-- an error ends the serving
pub ends_serving : {S E : Type 0} (connection : Result S E) (stream : S) (zone : List ℕ) (SameStore SamePort : Type 0)
    (error : Fault) → connection ≡ Ok stream → EndsServing error → SameStore × SamePort
    → (error ≡ fault cause.NoSuchZone → ¬ (IsZoneRule zone))
    → EndsConnection connection zone SameStore SamePort (Err error)
ends_serving connection stream zone SameStore SamePort error is ends same no_rule = record {
  refused = accepted connection stream _ is;
  unread = λ is. absurd (cc);
  failed = tt;
  error = ends;
  ended = same;
  no_rule = λ is. (let unruled : error ≡ fault cause.NoSuchZone = cc in no_rule unruled);
}

-- the error of a connection with this cause is out of memory
memory_alone : (error : Fault) → error.code ≡ code_of cause.Memory → IsUnanswered error ⊎ (error ≡ fault cause.WriteFailed)
    → error ≡ fault cause.Memory
memory_alone error is (inl (inl memory)) = memory
memory_alone error is (inl (inr read)) =
    absurd (other_code error.code cause.ReadFailed cause.Memory (omega arith) (ap (λ (it : Fault). it.code) read) is)
memory_alone error is (inr write) =
    absurd (other_code error.code cause.WriteFailed cause.Memory (omega arith) (ap (λ (it : Fault). it.code) write) is)

-- out of memory ends it
pub ends_without_memory : {S E : Type 0} (connection : Result S E) (stream : S) (zone : List ℕ)
    (SameStore SamePort : Type 0) (error : Fault) → connection ≡ Ok stream → error.code ≡ code_of cause.Memory
    → IsUnanswered error ⊎ (error ≡ fault cause.WriteFailed) → (IsUnanswered error → SameStore) → SamePort
    → EndsConnection connection zone SameStore SamePort (Err error)
ends_without_memory connection stream zone SameStore SamePort error is cause_is kind same_store same_port =
    let memory = memory_alone error cause_is kind in
    ends_serving connection stream zone SameStore SamePort error is (inl memory) (same_store (inl memory), same_port)
    (λ unruled. absurd (other_fault error cause.Memory cause.NoSuchZone (omega arith) memory unruled))
