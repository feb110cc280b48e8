-- The messages that a call may hear, after more were sent and heard.
use Rattle.std.proofs.Common.{◌≡◌, ℕ, ◌+◌, ◌-◌, ◌≤◌, Bool, true, false, not, List, [], ◌∷◌, ◌++◌, filter, length, take, sym, ap, ◌∙◌, subst, arith, All, Any, length-append}
use Rattle.std.proofs.lemmas.List.{take-append-le}
use Rattle.std.proofs.lemmas.List.Elements.{All-filter, filter-append}
use Rattle.pc_follows.specs.AgainInOneWave.{sent_for_call}
use Rattle.pc_follows.specs.PipelinedPuts.{heard_before}
use Rattle.pc_lists.proofs.Anywhere.{any_kept}
use Rattle.pc_wave.proofs.Lists.{any_before, at_least-kept}
use Rattle.pc_wave.specs.Standing.{HasMore, messages_for}
use Rattle.pc_world.specs.Counting.{AtLeast}
use Rattle.pc_world.specs.Known.{Known}
use Rattle.pc_world.specs.Known.Traffic.{Heard, Sent}
use Rattle.pc_world.specs.Tell.Refusal.{is_heard}

-- the one that passes the test is kept
pub filter_one : {X : Type 0} (test : X → Bool) (x : X) → test x ≡ true → filter test (x ∷ []) ≡ x ∷ []
filter_one test x is = cc

module _ (k k2 : Known) (sent_more : List Sent) (heard_more : List Heard) (more : HasMore k k2 sent_more heard_more) where
  abbrev before : ℕ
  before = length k.heard - length k.heard_now

  -- what was heard before the call is the same
  pub same_before : heard_before k2 ≡ heard_before k
  same_before =
      let one : length k2.heard ≡ length k.heard + length heard_more = ap length more.heard ∙ length-append k.heard heard_more in
      let two : length k2.heard_now ≡ length k.heard_now + length heard_more = ap length more.heard_now ∙ length-append k.heard_now heard_more in
      let same : length k2.heard - length k2.heard_now ≡ before = omega (arith, one, two) in
      let low : before ≤ length k.heard = omega arith in
      ap (λ n. take n k2.heard) same ∙ ap (take before) more.heard ∙ take-append-le before k.heard heard_more low

  -- Of these messages, those that were not heard before the call.
  abbrev pub news : List Sent → List Sent
  news sent = filter (λ m. not (is_heard (heard_before k) m)) sent

  pub for_call-more : sent_for_call k2 ≡ sent_for_call k ++ news sent_more
  for_call-more =
      ap (λ hs. filter (λ m. not (is_heard hs m)) k2.sent) same_before
      ∙ ap news more.sent
      ∙ filter-append (λ m. not (is_heard (heard_before k) m)) k.sent sent_more

  -- a request was sent for the call at least as often
  pub for_call-kept : (P : Sent → Type 0) (n : ℕ) → AtLeast P n (sent_for_call k) → AtLeast P n (sent_for_call k2)
  for_call-kept P n a = subst (λ ms. AtLeast P n ms) (sym for_call-more) (at_least-kept P n (sent_for_call k) (news sent_more) a)

  pub messages-kept : (P : Sent → Type 0) (b : Bool) → Any P (messages_for b k) → Any P (messages_for b k2)
  messages-kept P false some = subst (λ ms. Any P ms) (sym more.sent_now) (any_kept P k.sent_now sent_more some)
  messages-kept P true some = subst (λ ms. Any P ms) (sym for_call-more) (any_kept P (sent_for_call k) (news sent_more) some)

  -- what was sent for the call, and is none of these, was so before
  pub messages-before : (P : Sent → Type 0) (b : Bool) → All (λ m. P m → ⊥) sent_more → Any P (messages_for b k2) → Any P (messages_for b k)
  messages-before P false none some = any_before P k.sent_now sent_more none (subst (λ ms. Any P ms) more.sent_now some)
  messages-before P true none some =
      any_before P (sent_for_call k) (news sent_more) (All-filter (λ m. not (is_heard (heard_before k) m)) (λ m. P m → ⊥) sent_more none)
      (subst (λ ms. Any P ms) for_call-more some)
