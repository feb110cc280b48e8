-- Messages of a conflict's round leave the heartbeats of the open transaction as they were: none comes due, and none is sent or heard.
use Rattle.std.proofs.Common.{◌≡◌, ℕ, ◌+◌, ◌≤◌, Bool, ◌||◌, ◌==◌, All, Any, IsTrue, List, [], ◌∷◌, ◌++◌, refl, sym, ap, subst, ◌∙◌}
use Rattle.std.proofs.lemmas.List.{append-nil}
use Rattle.std.proofs.lemmas.List.Elements.{All-append, All-weaker}
use Rattle.std.proofs.lemmas.List.Folds.{list_any-append}
use Rattle.std.specs.List.{list_any}
use Rattle.pc_base.specs.declared.limits.TheConstants.{HEARTBEAT}
use Rattle.pc_exchange.proofs.Aside.{open_same}
use Rattle.pc_exchange.proofs.Lists.{any_front}
use Rattle.pc_exchange.proofs.Timely.{no_beat}
use Rattle.pc_exchange.specs.Aside.{IsAside, IsLaterAside}
use Rattle.pc_lists.proofs.Anywhere.{any_kept}
use Rattle.pc_proto.specs.declared.why.Why.{Why}
use Rattle.pc_follows.specs.Heartbeats.{AreBeatsHeard, FindsAborted, HasBeaten, IsBeatDue, is_heartbeat, last_shown}
use Rattle.pc_world.specs.Known.{Known}
use Rattle.pc_world.specs.Known.Traffic.{Heard, Sent}
use Rattle.pc_world.specs.Known.Transactions.{Txn}
use Rattle.pc_world.specs.Tell.Refusal.{is_heard}
use Rattle.pc_world.specs.Views.{shows_committed}

-- where two lists are none together, each is none
front-none : {X : Type 0} (xs ys : List X) → xs ++ ys ≡ [] → xs ≡ []
front-none [] ys none = refl
front-none (x ∷ xs) ys none = absurd (let e : x ∷ (xs ++ ys) ≡ [] = none in cc)

behind-none : {X : Type 0} (xs ys : List X) → xs ++ ys ≡ [] → ys ≡ []
behind-none [] ys none = none
behind-none (x ∷ xs) ys none = absurd (let e : x ∷ (xs ++ ys) ≡ [] = none in cc)

module _ (session : ℕ) (start k : Known) (last : ℕ) (later : IsLaterAside session start k last) (t : Txn) (beaten : HasBeaten start t) where
  -- what is due now was due then
  due-before : IsBeatDue k t → IsBeatDue start t
  due-before d =
      let none : start.sent_now ++ later.sent_more ≡ [] = sym later.sent_now ∙ d.first in
      let sent_is : k.sent ≡ start.sent = later.sent ∙ (ap (λ more. start.sent ++ more) (behind-none start.sent_now later.sent_more none) ∙ append-nil start.sent) in
      record {
        s = d.s;
        opened = sym later.statement ∙ d.opened;
        asks = d.asks;
        first = front-none start.sent_now later.sent_more none;
        whose = sym (open_same session start k last later) ∙ d.whose;
        anchor = d.anchor;
        anchored = d.anchored;
        uncommitted = λ ts was. d.uncommitted ts (subst (Any (λ h. IsTrue (shows_committed t.id ts h))) (sym later.heard) (any_kept (λ (h : Heard). IsTrue (shows_committed t.id ts h)) start.heard later.heard_more was));
        late = subst (λ sent. last_shown t sent + HEARTBEAT ≤ d.s.reading) sent_is d.late;
      }

  -- what was heard is heard still
  still : (m : Sent) → IsTrue (is_heard start.heard m) → IsTrue (is_heard k.heard m)
  still m is =
      let p : Heard → Bool = λ h. h.number == m.number in
      subst (λ heard. IsTrue (is_heard heard m)) (sym later.heard) (list_any-append p start.heard later.heard_more ∙ ap (λ b. b || list_any p later.heard_more) is)

  heard-still : AreBeatsHeard k
  heard-still =
      let P : Sent → Type 0 = λ m. IsTrue (is_heartbeat m.request) → IsTrue (is_heard k.heard m) in
      subst (All P) (sym later.sent_now)
      (All-append P start.sent_now later.sent_more
      (All-weaker (λ (m : Sent). IsTrue (is_heartbeat m.request) → IsTrue (is_heard start.heard m)) P (λ m on is. still m (on is)) start.sent_now beaten.heard)
      (All-weaker (λ (m : Sent). IsAside session start m.request) P (λ m aside is. absurd (no_beat start m.request aside.kind is)) later.sent_more later.sent_aside))

  alive-still : (why : Why) → Any (FindsAborted t why) k.heard_now → ⊥
  alive-still why any =
      beaten.alive why
      (any_front (FindsAborted t why) start.heard_now later.heard_more (subst (Any (FindsAborted t why)) later.heard_now any)
      (All-weaker (λ (h : Heard). IsAside session start h.request) (λ h. FindsAborted t why h → ⊥) (λ h aside finds. no_beat start h.request aside.kind finds.beat) later.heard_more later.heard_aside))

  pub beaten_still : HasBeaten k t
  beaten_still = record { none_due = λ d. beaten.none_due (due-before d); heard = heard-still; alive = alive-still }
