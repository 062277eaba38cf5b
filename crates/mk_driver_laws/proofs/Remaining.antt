-- How many attempts a client can still begin: noticing an outcome raises it by nothing, and an attempt that begins takes one of it.
use Rattle.std.proofs.Common.{◌≡◌, ◌≤◌, ℕ, zero, suc, ◌+◌, ◌-◌, ◌*◌, Bool, true, false, refl, ap, arith, List, [], ◌∷◌, ◌++◌, map, length, Option, Some, None, cond}
use Rattle.std.specs.Prelude.{slice_get, slice_set, replicate, filter}
use Rattle.std.proofs.lemmas.Option.{same_Some}
use Rattle.mk_script.specs.declared.lines.TxnLine.{TxnLine}
use Rattle.mk_driver.specs.declared.Request.{Request}
use Rattle.mk_driver.specs.declared.Submission.{Submission}
use Rattle.mk_driver.specs.declared.Caller.{Caller}
use Rattle.mk_driver.specs.Agenda.{trial_in, end_trial, put_trial, with_place}
use Rattle.mk_driver.specs.Delivery.{with_tries, retries_after, done_with, tried_again}
use Rattle.mk_driver.specs.Stages.{next_request, after_request, without_request_by, without_request, begun}
use Rattle.mk_driver.specs.Driven.{is_submission_of, submitted_by, asked_more}

-- each of these requests is tried once, and again as often as it has tries
abbrev pub attempts_of : List Request → ℕ
attempts_of [] = 0
attempts_of (request ∷ requests) = 1 + request.tries + attempts_of requests

-- what was asked for is tried again as often as it has tries
abbrev pub tries_of : Option Request → ℕ
tries_of None = 0
tries_of (Some request) = request.tries

abbrev pub tries_in : List (Option Request) → ℕ
tries_in [] = 0
tries_in (trial ∷ trials) = tries_of trial + tries_in trials

-- how many attempts the client can still begin
abbrev pub remaining : Caller → ℕ
remaining caller = tries_in caller.trials + (attempts_of caller.retries + attempts_of caller.lines)

attempts_append : (xs ys : List Request) → attempts_of (xs ++ ys) ≡ attempts_of xs + attempts_of ys
attempts_append [] ys = omega arith
attempts_append (x ∷ xs) ys = let rest = attempts_append xs ys in omega (arith, rest)

-- ---- trials

tries_none : (n : ℕ) → tries_in (replicate n None) ≡ 0
tries_none zero = refl
tries_none (suc n) = let rest = tries_none n in omega (arith, rest)

tries_room : (trials : List (Option Request)) (n : ℕ) → tries_in (trials ++ replicate n None) ≡ tries_in trials
tries_room [] n = tries_none n
tries_room (trial ∷ trials) n = ap (λ m. tries_of trial + m) (tries_room trials n)

-- another trial comes in the place of one
tries_set : (trials : List (Option Request)) (place : ℕ) (trial : Option Request) →
    tries_in (slice_set trials place trial) + tries_of (trial_in trials place) ≤ tries_in trials + tries_of trial
tries_set [] place trial = omega arith
tries_set (old ∷ trials) zero trial = omega arith
tries_set (old ∷ trials) (suc place) trial = let rest = tries_set trials place trial in omega (arith, rest)

tries_put : (seq : ℕ) (trial : Option Request) (trials : List (Option Request)) → tries_in (put_trial seq trial trials) ≤ tries_in trials + tries_of trial
tries_put seq trial trials =
    let set = tries_set (with_place seq trials) seq trial in
    let room = tries_room trials (seq + 1 - length trials) in
    omega (arith, set, room)

tries_end : (seq : ℕ) (trials : List (Option Request)) → tries_in (end_trial seq trials) + tries_of (trial_in trials seq) ≤ tries_in trials
tries_end seq trials = let set = tries_set trials seq None in omega (arith, set)

-- ---- noticing

attempts_tried : (tries : ℕ) (request : Request) (retries : List Request) → attempts_of (with_tries tries request retries) ≡ tries + attempts_of retries
attempts_tried zero request retries = omega arith
attempts_tried (suc tries) request retries =
    let all = attempts_append retries (record request { tries = tries } ∷ []) in omega (arith, all)

attempts_after : (trial : Option Request) (retries : List Request) → attempts_of (retries_after trial retries) ≡ tries_of trial + attempts_of retries
attempts_after None retries = omega arith
attempts_after (Some request) retries = attempts_tried request.tries request retries

-- a transaction that is tried again has one try less, and that one is an attempt
pub again_remains : (seq : ℕ) (x : Caller) → remaining (tried_again seq x) ≤ remaining x
again_remains seq x =
    let gone = tries_end seq x.trials in
    let more = attempts_after (trial_in x.trials seq) x.retries in
    omega (arith, gone, more)

pub done_remains : (seq : ℕ) (x : Caller) → remaining (done_with seq x) ≤ remaining x
done_remains seq x = let gone = tries_end seq x.trials in omega (arith, gone)

-- ---- beginning

-- the first line leaves the lines
taken_line : (lines : List Request) (request : Request) → slice_get lines 0 ≡ Some request → attempts_of (after_request lines) + (1 + request.tries) ≡ attempts_of lines
taken_line [] request e = absurd (cc e)
taken_line (line ∷ lines) request e = let same : line.tries ≡ request.tries = ap (λ (r : Request). r.tries) (same_Some line request e) in omega (arith, same)

trials_kept : (requests : List Request) (x : Caller) → (without_request_by requests x).trials ≡ x.trials
trials_kept [] x = refl
trials_kept (request ∷ requests) x = refl

-- the next request leaves the list
taken_by : (requests : List Request) (x : Caller) (request : Request) → x.retries ≡ requests → slice_get (requests ++ x.lines) 0 ≡ Some request →
    attempts_of (without_request_by requests x).retries + attempts_of (without_request_by requests x).lines + (1 + request.tries) ≡ attempts_of x.retries + attempts_of x.lines
taken_by [] x request r e = let line = taken_line x.lines request e in omega (arith, line)
taken_by (first ∷ requests) x request r e =
    let same : first.tries ≡ request.tries = ap (λ (q : Request). q.tries) (same_Some first request e) in
    let all : attempts_of x.retries ≡ 1 + first.tries + attempts_of requests = ap attempts_of r in
    omega (arith, same, all)

-- an attempt that is unread takes what was asked for with all its tries
pub unread_remains : (x : Caller) (request : Request) → next_request x ≡ Some request → remaining (without_request x) + 1 ≤ remaining x
unread_remains x request e =
    let taken = taken_by x.retries x request refl e in
    let kept = ap tries_in (trials_kept x.retries x) in
    omega (arith, taken, kept)

-- an attempt that begins leaves as many as it has tries
pub begun_remains : (seq : ℕ) (x : Caller) (request : Request) → next_request x ≡ Some request → remaining (begun seq x) + 1 ≤ remaining x
begun_remains seq x request e =
    let taken = taken_by x.retries x request refl e in
    let kept = ap tries_in (trials_kept x.retries x) in
    let put = tries_put seq (next_request x) (without_request x).trials in
    let tries : tries_of (next_request x) ≡ request.tries = ap tries_of e in
    omega (arith, taken, kept, put, tries)

-- ---- a round

-- what the lines of a round ask for of one client
attempts_asked : (retry n : ℕ) (lines : List TxnLine) →
    attempts_of (map (λ (s : Submission). s.request) (filter (is_submission_of n) (map (submitted_by retry) lines))) ≤ length lines * (1 + retry)
attempts_asked retry n [] = omega arith
attempts_asked retry n (line ∷ lines) = head (is_submission_of n (submitted_by retry line)) (attempts_asked retry n lines)
  where
    rest : List Submission
    rest = filter (is_submission_of n) (map (submitted_by retry) lines)

    more : suc (length lines) * (1 + retry) ≡ 1 + retry + length lines * (1 + retry)
    more = grind arith

    head : (b : Bool) → attempts_of (map (λ (s : Submission). s.request) rest) ≤ length lines * (1 + retry) →
        attempts_of (map (λ (s : Submission). s.request) (cond b (submitted_by retry line ∷ rest) rest)) ≤ suc (length lines) * (1 + retry)
    head true e = let m = more in omega (arith, e, m)
    head false e = let m = more in omega (arith, e, m)

-- each line of a round is at most one attempt, and one for each try
pub asked_remains : (retry : ℕ) (lines : List TxnLine) (x : Caller) → remaining (asked_more (map (submitted_by retry) lines) x) ≤ remaining x + length lines * (1 + retry)
asked_remains retry lines x =
    let asked = attempts_asked retry x.number lines in
    let all = attempts_append x.lines (map (λ (s : Submission). s.request) (filter (is_submission_of x.number) (map (submitted_by retry) lines))) in
    omega (arith, asked, all)
