-- A reply has one text.
use Rattle.std.proofs.Common.{◌≡◌, ◌≤◌, List, [], ◌++◌, codes, length, ℕ, Option, Some, None, unwrap_or, Ok, Err, Bool, pos, refl, sym, ap, ◌∙◌, arith, append_assoc, append-nil}
use denote.Ref.{Bor}
use Rattle.std.specs.Prelude.{option_map}
use Rattle.http.specs.StatusCode.{reason_phrase}
use Rattle.pt_base_values.specs.declared.rule.Rule.TheVariants as rule
use Rattle.pt_http_request.specs.declared.fault.RequestFault.TheVariants as fault
use Rattle.pt_rights_files.specs.declared.case_file.Standing.{Standing}
use Rattle.pt_rights_files.specs.declared.case_file.Standing.TheVariants as standing
use Rattle.pt_desk_store.specs.declared.keeper.StoreFault.TheVariants.{Memory, Store}
use Rattle.pt_desk_requests.specs.declared.request.Answer.{Answer}
use Rattle.pt_desk_requests.specs.declared.request.Answer.TheVariants as answer
use Rattle.pt_http_reply.proofs.TripLemmas.{IsDateText-unique, trips_body-unique}
use Rattle.pt_http_reply.specs.Body.{granted_body, IsStandingBody, IsAnswerBody, IsBody}
use Rattle.pt_http_reply.specs.Reply.{bytes_in}
use Rattle.pt_http_reply.specs.Response.{IsReplyText, reply_text, status_of}
use Rattle.pt_http_reply.specs.declared.body.Body.{Body}
use Rattle.pt_http_reply.specs.declared.body.Body.TheVariants.{Fixed}
use Rattle.pt_http_reply.specs.declared.response.Response.{Response}
use Rattle.pt_http_reply.specs.declared.response.Response.TheVariants as response

standing_body-unique : (s : Standing) (suspended : Bool) (a b : List ℕ) → IsStandingBody s suspended a → IsStandingBody s suspended b → a ≡ b
standing_body-unique standing.Presumed suspended a b is other = is ∙ sym other
standing_body-unique standing.AppealOverdue suspended a b is other = is ∙ sym other
standing_body-unique standing.None suspended a b is other = is ∙ sym other
standing_body-unique (standing.Granted grant) suspended a b is other =
    is.2 ∙ ap (granted_body grant suspended) (IsDateText-unique (pos grant.until) is.0 other.0 is.1 other.1) ∙ sym other.2

answer_body-unique : (told : Answer) (a b : List ℕ) → IsAnswerBody told a → IsAnswerBody told b → a ≡ b
answer_body-unique answer.Done a b is other = is ∙ sym other
answer_body-unique (answer.Entered place) a b is other = is ∙ sym other
answer_body-unique (answer.Standing standing suspended) a b is other = standing_body-unique standing suspended a b is other
answer_body-unique (answer.Visitor may_use) a b is other = is ∙ sym other
answer_body-unique (answer.Booked told) a b is other = is ∙ sym other
answer_body-unique answer.Possible a b is other = is ∙ sym other
answer_body-unique (answer.Trips trips) a b is other = trips_body-unique trips a b is other
answer_body-unique (answer.Letter letter) a b is other = is ∙ sym other
answer_body-unique (answer.Manifest day sheet) a b is other = is ∙ sym other
answer_body-unique (answer.DaySheet sheet) a b is other = is ∙ sym other
answer_body-unique (answer.Export trips) a b is other = is ∙ sym other
answer_body-unique (answer.Denied rule) a b is other = is ∙ sym other

body-unique : (reply : Response) (a b : List ℕ) → IsBody reply a → IsBody reply b → a ≡ b
body-unique (response.Answered (Ok told)) a b is other = answer_body-unique told a b is other
body-unique (response.Answered (Err Memory)) a b is other = is ∙ sym other
body-unique (response.Answered (Err Store)) a b is other = is ∙ sym other
body-unique (response.Refused refused) a b is other = is ∙ sym other

pub IsReplyText-unique : (reply : Response) (a b : List ℕ) → IsReplyText reply a → IsReplyText reply b → a ≡ b
IsReplyText-unique reply a b is other =
    is.text ∙ ap (reply_text reply) (body-unique reply is.body other.body is.told other.told) ∙ sym other.text

-- a body after its head is the reply
pub reply_formed : (reply : Response) (body all : List ℕ) → IsBody reply body → all ≡ reply_text reply body → IsReplyText reply all
reply_formed reply body all told is_all = record { body = body; told = told; text = is_all }

-- ---- parts one after another

pub three_parts : (front a b c one two three : List ℕ) → one ≡ front ++ a → two ≡ one ++ b → three ≡ two ++ c → three ≡ front ++ ((a ++ b) ++ c)
three_parts front a b c one two three is_one is_two is_three = rw (is_three, is_two, is_one) (simp append_assoc)

pub five_parts : (front a b c d e one two three four five : List ℕ) → one ≡ front ++ a → two ≡ one ++ b → three ≡ two ++ c → four ≡ three ++ d → five ≡ four ++ e
    → five ≡ front ++ ((a ++ ((b ++ c) ++ d)) ++ e)
five_parts front a b c d e one two three four five is_one is_two is_three is_four is_five =
    rw (is_five, is_four, is_three, is_two, is_one) (simp append_assoc)

-- a body in a fixed buffer comes right after its head, and nothing follows it
pub fixed_bytes : (head : ℕ → List ℕ) (body : Body) (text one other front all rest : List ℕ) → body ≡ Fixed text → one ≡ text → other ≡ text
    → front ≡ head (length one) → all ≡ front ++ other → rest ≡ [] → all ++ rest ≡ head (length (bytes_in body)) ++ bytes_in body
fixed_bytes head body text one other front all rest is_body is_one is_other is_front is_all ended =
    rw (is_body, is_all, is_front, is_one, is_other, ended) (append-nil (head (length text) ++ text))

pub six_lines : (old a b c d e f one two three four five six : List ℕ) → old ≡ [] → one ≡ old ++ a → two ≡ one ++ b → three ≡ two ++ c
    → four ≡ three ++ d → five ≡ four ++ e → six ≡ five ++ f → six ≡ a ++ b ++ c ++ d ++ e ++ f
six_lines old a b c d e f one two three four five six none is_one is_two is_three is_four is_five is_six =
    rw (is_six, is_five, is_four, is_three, is_two, is_one, none) refl

-- ---- status lines

-- the phrase of a reply's status is short
pub short_phrase : (reply : Response) → length (unwrap_or (reason_phrase (status_of reply)) (codes "<unknown status code>")) ≤ 31
short_phrase (response.Answered (Ok (answer.Denied rule.Key))) = omega arith
short_phrase (response.Answered (Ok (answer.Denied rule.Number))) = omega arith
short_phrase (response.Answered (Ok (answer.Denied rule.Caller))) = omega arith
short_phrase (response.Answered (Ok (answer.Denied rule.Unknown))) = omega arith
short_phrase (response.Answered (Ok (answer.Denied other))) = omega arith
short_phrase (response.Answered (Ok told)) = omega arith
short_phrase (response.Answered (Err failed)) = omega arith
short_phrase (response.Refused fault.Path) = omega arith
short_phrase (response.Refused (fault.Method allowed)) = omega arith
short_phrase (response.Refused other) = omega arith

-- the phrase as it is read from an option
pub phrase_now : (o : Option (Bor (List ℕ))) (r d : Bor (List ℕ)) (phrase : Option (List ℕ)) → r ≡ unwrap_or o d → option_map (λ s. s.now) o ≡ phrase
    → r.now ≡ unwrap_or phrase d.now
phrase_now None r d phrase is same = ap (λ b. b.now) is ∙ ap (λ o. unwrap_or o d.now) same
phrase_now (Some s) r d phrase is same = ap (λ b. b.now) is ∙ ap (λ o. unwrap_or o d.now) same
