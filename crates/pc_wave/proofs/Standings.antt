-- A message stands on while its session sends and hears what is of other requests.
use Rattle.std.proofs.Common.{◌≡◌, ◌≢◌, ℕ, ◌+◌, ◌==◌, Bool, true, false, not, ◌&&◌, inl, inr, List, ◌∷◌, ◌++◌, find, length, None, Some, Option, refl, sym, ap, ◌∙◌, subst, arith, All, Any, IsTrue, length-append}
use Rattle.std.specs.List.{list_any}
use Rattle.std.specs.Option.{option_map, option_or}
use Rattle.std.proofs.lemmas.List.{append_assoc}
use Rattle.std.proofs.lemmas.List.Elements.{All-append, All-weaker}
use Rattle.std.proofs.lemmas.List.Folds.{find-append}
use Rattle.pc_base.specs.declared.transaction.TxnId.{TxnId}
use Rattle.pc_proto.specs.declared.fate.Goal.{Goal}
use Rattle.pc_proto.specs.declared.reply.Reply.{Reply}
use Rattle.pc_proto.specs.declared.reply.Reply.TheVariants as replies
use Rattle.pc_proto.specs.declared.request.Request.{Request}
use Rattle.pc_proto.specs.Requests.{is_put}
use Rattle.pc_lists.proofs.Anywhere.{any_kept}
use Rattle.pc_wave.proofs.ForCall.{for_call-kept, messages-before, messages-kept}
use Rattle.pc_wave.proofs.Lists.{any_before, any_true_kept, at_least-before, at_least-kept}
use Rattle.pc_wave.specs.Course.{Course}
use Rattle.pc_wave.specs.declared.message.Message.{Message}
use Rattle.pc_wave.specs.declared.message.Progress.{Progress}
use Rattle.pc_wave.specs.declared.message.Progress.TheVariants as progresses
use Rattle.pc_wave.specs.Standing.{AreAnsweredBut, AreAnsweredIn, AreCounted, CountsTries, HasComeBack, HasMore, IsAsFar, IsMessageAt, IsOnItsWay, IsFreeToGo, IsReason, WasLeftBehind, IsReplyAt, MayGoOut, MessageStands, MetConflict, IsSentUnder, WentOutBefore, sends_counted, messages_of}
use Rattle.pc_world.specs.Counting.{AtLeast}
use Rattle.pc_follows.specs.AgainInOneWave.{sent_for_call}
use Rattle.pc_follows.specs.OwnStages.{refuses_stage}
use Rattle.pc_follows.specs.PutsAgain.{WasPassedOver, WentThroughRound}
use Rattle.pc_follows.specs.Resends.{MetConflictNow, WasDone, WasFollowed}
use Rattle.pc_world.specs.Known.{Known}
use Rattle.pc_world.specs.Known.Traffic.{Heard, Sent, request_sent}
use Rattle.pc_world.specs.SameRequest.{IsSameRequest}
use Rattle.pc_world.specs.Send.Settling.{ResolvedTo}
use Rattle.pc_world.specs.Tell.Refusal.{IsConflictOf, is_heard}

pub done-more : (id : TxnId) (key : List ℕ) (goal : Goal) (reply : Reply) (after more : List Heard) → WasDone id key goal reply after → WasDone id key goal reply (after ++ more)
done-more id key goal (replies.Status view) after more done = record { fate = done.fate; left = done.left; settled = any_kept (ResolvedTo id key done.fate) after more done.settled }
done-more id key goal (replies.Unsure view) after more done = record {
  before = done.before;
  recovery = done.recovery;
  after = done.after ++ more;
  whole = ap (λ hs. hs ++ more) done.whole ∙ append_assoc done.before (done.recovery ∷ done.after) more;
  view = done.view;
  shown = done.shown;
  settled = λ fate final. any_kept (ResolvedTo id key fate) done.after more (done.settled fate final);
}
done-more id key goal reply after more done = absurd done

pub followed-more : (id : TxnId) (key : List ℕ) (later more : List Heard) → WasFollowed id key later → WasFollowed id key (later ++ more)
followed-more id key later more f = record {
  before = f.before;
  push = f.push;
  after = f.after ++ more;
  whole = ap (λ hs. hs ++ more) f.whole ∙ append_assoc f.before (f.push ∷ f.after) more;
  pushed = f.pushed;
  goal = f.goal;
  aims = f.aims;
  done = done-more id key f.goal f.push.reply f.after more f.done;
}

some-or : (a b : Option Sent) (r : Request) → option_map (λ s. s.request) a ≡ Some r → option_map (λ s. s.request) (option_or a b) ≡ Some r
some-or None b r h = absurd cc
some-or (Some s) b r h = h

pub said_kept : (n : ℕ) (r : Request) (xs ys : List Sent) → request_sent n xs ≡ Some r → request_sent n (xs ++ ys) ≡ Some r
said_kept n r xs ys h = ap (option_map (λ s. s.request)) (find-append (λ s. s.number == n) xs ys) ∙ some-or (find (λ s. s.number == n) xs) (find (λ s. s.number == n) ys) r h

-- A reply that was heard is to another request.
abbrev pub IsOther : Request → Heard → Type 0
IsOther request h = IsSameRequest request h.request → ⊥

-- A message that was sent is of another request.
abbrev pub IsOtherSent : Request → Sent → Type 0
IsOtherSent request m = IsSameRequest request m.request → ⊥

module _ (co : Course) (k k2 : Known) (sent_more : List Sent) (heard_more : List Heard) (more : HasMore k k2 sent_more heard_more) where
  pub out-kept : (number : ℕ) (request : Request) → IsSentUnder co k number request → IsSentUnder co k2 number request
  out-kept number request out =
      let longer : length k2.sent ≡ length k.sent + length sent_more = ap length more.sent ∙ length-append k.sent sent_more in
      record {
        said = ap (request_sent number) more.sent ∙ said_kept number request k.sent sent_more out.said;
        numbered = omega (arith, longer, out.numbered);
        now = messages-kept k k2 sent_more heard_more more (IsMessageAt number request) (is_put request && co.pipelines) out.now;
      }

  -- what was sent for the call was so still
  pub here-kept : (request : Request) → Any (λ s. IsSameRequest request s.request) (messages_of co.pipelines k request) → Any (λ s. IsSameRequest request s.request) (messages_of co.pipelines k2 request)
  here-kept request some = messages-kept k k2 sent_more heard_more more (λ s. IsSameRequest request s.request) (is_put request && co.pipelines) some

  pub heard-kept : (m : Sent) → IsTrue (is_heard k.heard_now m) → IsTrue (is_heard k2.heard_now m)
  heard-kept m heard = ap (list_any (λ h. h.number == m.number)) more.heard_now ∙ any_true_kept (λ h. h.number == m.number) k.heard_now heard_more heard

  module _ (request : Request) (news : All (IsOtherSent request) sent_more) (others : All (IsOther request) heard_more) where
    met-kept : MetConflictNow k request → MetConflictNow k2 request
    met-kept m = record {
      before = m.before;
      conflict = m.conflict;
      later = m.later ++ heard_more;
      whole = more.heard_now ∙ ap (λ hs. hs ++ heard_more) m.whole ∙ append_assoc m.before (m.conflict ∷ m.later) heard_more;
      same = m.same;
      last = All-append (IsOther request) m.later heard_more m.last others;
      holder = m.holder;
      ts = m.ts;
      key = m.key;
      met = m.met;
      followed = followed-more m.holder.id m.key m.later heard_more m.followed;
    }

    pub went-kept : WentThroughRound k request → WentThroughRound k2 request
    unfolding met-kept
    went-kept w = record { met = met-kept w.met; just_so = w.just_so }

    passed-kept : WasPassedOver k request → WasPassedOver k2 request
    passed-kept p = record {
      before = p.before;
      conflict = p.conflict;
      later = p.later ++ heard_more;
      whole = more.heard_now ∙ ap (λ hs. hs ++ heard_more) p.whole ∙ append_assoc p.before (p.conflict ∷ p.later) heard_more;
      same = p.same;
      last = All-append (IsOther request) p.later heard_more p.last others;
      met = p.met;
      refused = any_kept (λ h. IsTrue (refuses_stage h.request h.reply)) p.later heard_more p.refused;
    }

    left-kept : WasLeftBehind k request → WasLeftBehind k2 request
    left-kept left = (
      left.0,
      subst (λ hs. Any (λ h. IsTrue (refuses_stage h.request h.reply)) hs) (sym more.heard_now) (any_kept (λ h. IsTrue (refuses_stage h.request h.reply)) k.heard_now heard_more left.1),
    )

    reason-kept : (b l : Bool) → IsReason b l k request → IsReason b l k2 request
    reason-kept false l w = went-kept w
    reason-kept true false (inl w) = inl (went-kept w)
    reason-kept true false (inr p) = inr (p.0, passed-kept p.1)
    reason-kept true true (inl w) = inl (went-kept w)
    reason-kept true true (inr (inl p)) = inr (inl (p.0, passed-kept p.1))
    reason-kept true true (inr (inr left)) = inr (inr (left-kept left))

    pub answered-kept : (b : Bool) → AreAnsweredIn b k request → AreAnsweredIn b k2 request
    answered-kept true a = tt
    answered-kept false a =
        let P : Sent → Type 0 = λ m. IsSameRequest request m.request → IsTrue (is_heard k.heard_now m) in
        let Q : Sent → Type 0 = λ m. IsSameRequest request m.request → IsTrue (is_heard k2.heard_now m) in
        let old : All Q k.sent_now = All-weaker P Q (λ m p same. heard-kept m (p same)) k.sent_now a in
        let new : All Q sent_more = All-weaker (IsOtherSent request) Q (λ m other same. absurd (other same)) sent_more news in
        subst (λ ms. All Q ms) (sym more.sent_now) (All-append Q k.sent_now sent_more old new)

    rest-kept : (b : Bool) (number : ℕ) → AreAnsweredBut b k number request → AreAnsweredBut b k2 number request
    rest-kept true number a = tt
    rest-kept false number a =
        let P : Sent → Type 0 = λ m. IsSameRequest request m.request → m.number ≢ number → IsTrue (is_heard k.heard_now m) in
        let Q : Sent → Type 0 = λ m. IsSameRequest request m.request → m.number ≢ number → IsTrue (is_heard k2.heard_now m) in
        let old : All Q k.sent_now = All-weaker P Q (λ m p same differ. heard-kept m (p same differ)) k.sent_now a in
        let new : All Q sent_more = All-weaker (IsOtherSent request) Q (λ m other same. absurd (other same)) sent_more news in
        subst (λ ms. All Q ms) (sym more.sent_now) (All-append Q k.sent_now sent_more old new)

    awaited-kept : (number : ℕ) → All (λ h. h.number ≢ number) heard_more → IsOnItsWay co k number request → IsOnItsWay co k2 number request
    awaited-kept number apart w = record {
      out = out-kept number request w.out;
      rest = rest-kept co.loses number w.rest;
      unheard = subst (λ hs. All (λ h. h.number ≢ number) hs) (sym more.heard) (All-append (λ h. h.number ≢ number) k.heard heard_more w.unheard apart);
    }

    back-kept : (number : ℕ) (reply : Reply) → HasComeBack co k number request reply → HasComeBack co k2 number request reply
    back-kept number reply b = record {
      out = out-kept number request b.out;
      answered = answered-kept co.loses b.answered;
      heard = subst (λ hs. Any (IsReplyAt number request reply) hs) (sym more.heard_now) (any_kept (IsReplyAt number request reply) k.heard_now heard_more b.heard);
      kind = b.kind;
      plain = b.plain;
    }

    pub go_out-kept : MayGoOut co k request → MayGoOut co k2 request
    go_out-kept g = record {
      answered = answered-kept co.loses g.answered;
      again = λ quiet some. reason-kept co.pipelines co.loses (g.again quiet (before some));
    }
      where
        before : WentOutBefore co k2 request → WentOutBefore co k request
        before (inl sent) = inl (messages-before k k2 sent_more heard_more more (λ m. IsSameRequest request m.request) (is_put request && (not co.loses && co.pipelines)) news sent)
        before (inr told) = inr (told.0, any_before (λ h. IsSameRequest request h.request) k.heard_now heard_more others (subst (λ hs. Any (λ h. IsSameRequest request h.request) hs) more.heard_now told.1))

    ready-kept : (b : Bool) → IsFreeToGo b co k request → IsFreeToGo b co k2 request
    ready-kept false g = go_out-kept g
    ready-kept true g = tt

    pub conflict-kept : (number : ℕ) (conflict : Reply) → MetConflict co k number request conflict → MetConflict co k2 number request conflict
    conflict-kept number conflict m = record {
      out = out-kept number request m.out;
      answered = answered-kept co.loses m.answered;
      kind = m.kind;
      holder = m.holder;
      ts = m.ts;
      key = m.key;
      is = m.is;
      before = m.before;
      h = m.h;
      later = m.later ++ heard_more;
      whole = more.heard_now ∙ ap (λ hs. hs ++ heard_more) m.whole ∙ append_assoc m.before (m.h ∷ m.later) heard_more;
      reply = m.reply;
      last = All-append (IsOther request) m.later heard_more m.last others;
    }

    pub counted-kept : (n : ℕ) → AreCounted k request n → AreCounted k2 request n
    counted-kept n c =
        let P : Heard → Type 0 = IsConflictOf request in
        let none : All (λ h. P h → ⊥) heard_more = All-weaker (IsOther request) (λ h. P h → ⊥) (λ h other is. other is.same) heard_more others in
        record {
          heard = subst (λ hs. AtLeast P n hs) (sym more.heard_now) (at_least-kept P n k.heard_now heard_more c.heard);
          no_more = λ a. c.no_more (at_least-before P (n + 1) k.heard_now heard_more none (subst (λ hs. AtLeast P (n + 1) hs) more.heard_now a));
        }

    -- it was sent as often
    pub sent-kept : (n : ℕ) → AtLeast (λ m. IsSameRequest request m.request) n (sent_for_call k) → AtLeast (λ m. IsSameRequest request m.request) n (sent_for_call k2)
    sent-kept n a = for_call-kept k k2 sent_more heard_more more (λ m. IsSameRequest request m.request) n a

    pub far-kept : (n : ℕ) (p : Progress) → ((number : ℕ) → p ≡ progresses.Sent number → All (λ h. h.number ≢ number) heard_more) → IsAsFar co k request n p → IsAsFar co k2 request n p
    far-kept n progresses.ToSend apart f = (ready-kept co.loses f.0, f.1)
    far-kept n (progresses.Sent number) apart f = (awaited-kept number (apart number refl) f.0, f.1)
    far-kept n (progresses.Met number conflict) apart f = conflict-kept number conflict f
    far-kept n (progresses.Answered number reply) apart f = (back-kept number reply f.0, f.1)

  -- the message stands as before
  pub stands-kept : (m : Message) → All (IsOtherSent m.request) sent_more → All (IsOther m.request) heard_more
      → ((number : ℕ) → m.progress ≡ progresses.Sent number → All (λ h. h.number ≢ number) heard_more) → (CountsTries co.loses co k m → CountsTries co.loses co k2 m) → MessageStands co k m → MessageStands co k2 m
  stands-kept m news others apart tries s = record {
    as_far = far-kept m.request news others m.conflicts m.progress apart s.as_far;
    counted = counted-kept m.request news others m.conflicts s.counted;
    sent = sent-kept m.request news others (sends_counted m.conflicts m.progress) s.sent;
    tries = tries s.tries;
    no_round = s.no_round;
  }
