-- What comes next is allowed, and after a reply the machine stands by what its actor knows.
use Rattle.std.proofs.Common.{◌≡◌, ℕ, zero, suc, ◌+◌, ◌≤◌, true, false, Bool, List, [], ◌∷◌, ◌++◌, length, take, slice_get, inl, inr, Any, Option, None, Some, Result, Ok, Err, IfOk, refl, sym, ap, ◌∙◌, subst, arith}
use Rattle.std.proofs.lemmas.List.{take_more}
use Rattle.std.proofs.lemmas.List.Elements.{All-nil, All-push, All-weaker}
use Rattle.std.proofs.lemmas.Option.{slice_get_cases}
use Rattle.pc_base.specs.declared.actor.ActorId.{ActorId}
use Rattle.pc_base.specs.declared.memory.NoMemory.{NoMemory}
use Rattle.pc_lists.proofs.Anywhere.{any_weaker}
use Rattle.pc_proto.specs.declared.reply.Reply.{Reply}
use Rattle.pc_proto.specs.declared.reply.Reply.TheVariants as replies
use Rattle.pc_proto.specs.declared.request.Request.{Request}
use Rattle.pc_resolve.proofs.Finishing.{finish_later}
use Rattle.pc_resolve.proofs.Going.{goes_on}
use Rattle.pc_resolve.specs.ResolveKnows.{AreSettled, FinishingMayCome, IsLaterWithoutPuts, IsRemoved, ResolveKnows, WasAnsweredToIt, sends_put_by}
use Rattle.pc_resolve.specs.Resolving.{Resolving, at_end, finishing_after, finishing_due, finishing_heard, finishing_next, lock_resolve, remove_of, unsettled, with_reply}
use Rattle.pc_world.proofs.Exchange.{answered, heard_earlier, heard_ever, is_hearing, later-push}
use Rattle.pc_proto.specs.declared.machine.MachineNext.{MachineNext}
use Rattle.pc_proto.specs.declared.machine.MachineNext.TheVariants as nexts
use Rattle.pc_world.specs.Exchange.{HeardSince, IsExchange}
use Rattle.pc_world.specs.Known.{Known}
use Rattle.pc_world.specs.Send.Settling.{AllResolved, MayFinish, MaySendRemove, WasResolved}

take_all : (xs : List (List ℕ)) (n : ℕ) → length xs ≤ n → take n xs ≡ xs
take_all [] zero low = refl
take_all [] (suc n) low = refl
take_all (x ∷ xs) zero low = absurd (omega arith)
take_all (x ∷ xs) (suc n) low = ap (λ l. x ∷ l) (take_all xs n (omega arith))

-- the place is behind the last lock, where no lock stands there
behind : (locks : List (List ℕ)) (n : ℕ) → slice_get locks n ≡ None → length locks ≤ n
behind locks n none = elim ((slice_get_cases locks n).1) [ inl (x, low, is, same) ↦ absurd cc | inr (low, is) ↦ low ]

module _ (start k : Known) (m : Resolving) (knows : ResolveKnows start k m) where
  all_settled : unsettled m ≡ None → AreSettled start k m m.locks
  all_settled none = subst (λ locks. AreSettled start k m locks) (take_all m.locks m.settled (behind m.locks m.settled none)) knows.settled

  resolved : unsettled m ≡ None → AllResolved k.heard m.id m.locks
  resolved none =
      All-weaker (λ key. HeardSince start k (lock_resolve m key) replies.Resolved) (λ key. Any (WasResolved m.id key) k.heard)
      (λ key heard.
      any_weaker (IsExchange (lock_resolve m key) replies.Resolved) (WasResolved m.id key)
      (λ h is. (m.fate, record { asked = is.asked; told = is.told })) k.heard (heard_ever start k (lock_resolve m key) replies.Resolved heard))
      m.locks (all_settled none)

  may_now : MayFinish k m.id m.anchor m.fate m.locks
  may_now = finish_later start k m knows.since knows.may

  may_remove : unsettled m ≡ None → MaySendRemove k m.id m.anchor
  may_remove none = record {
    shown = may_now.shown;
    locks = m.locks;
    anchored = may_now.anchored;
    final = may_now.final;
    must = may_now.must;
    settled = resolved none;
  }

  end_may : (splits : List (List ℕ)) (actor : ActorId) (removed : Bool) → m.removed ≡ removed → unsettled m ≡ None → FinishingMayCome splits actor start k m (at_end removed m)
  end_may splits actor true over none = knows.removed over
  end_may splits actor false over none = record { row = may_remove none; stamps = All-nil (λ ts. ts ≤ k.top + 1) }

  due_may : (splits : List (List ℕ)) (actor : ActorId) (key : Option (List ℕ)) → unsettled m ≡ key → FinishingMayCome splits actor start k m (finishing_due key m)
  due_may splits actor (Some key) is = record { row = may_now.resolve; stamps = may_now.stamps }
  due_may splits actor None is = end_may splits actor m.removed refl is

  pub next_may : (splits : List (List ℕ)) (actor : ActorId) (r : Result MachineNext NoMemory) → IfOk r (λ next. next ≡ finishing_next m) → IfOk r (FinishingMayCome splits actor start k m)
  next_may splits actor (Ok next) is = subst (FinishingMayCome splits actor start k m) (sym is) (due_may splits actor (unsettled m) refl)
  next_may splits actor (Err e) is = tt

-- one more lock is settled
settled_more : (start k : Known) (m : Resolving) (key : List ℕ) → slice_get m.locks m.settled ≡ Some key → AreSettled start k m (take m.settled m.locks) → HeardSince start k (lock_resolve m key) replies.Resolved
    → AreSettled start k m (take (m.settled + 1) m.locks)
settled_more start k m key at settled heard =
    let more : take (m.settled + 1) m.locks ≡ take m.settled m.locks ++ key ∷ [] = one_more m.locks m.settled key at in
    subst (λ locks. AreSettled start k m locks) (sym more)
    (All-push (λ key. HeardSince start k (lock_resolve m key) replies.Resolved) (take m.settled m.locks) key settled heard)
  where
    one_more : (locks : List (List ℕ)) (n : ℕ) (key : List ℕ) → slice_get locks n ≡ Some key → take (n + 1) locks ≡ take n locks ++ key ∷ []
    one_more locks n key at =
        elim ((slice_get_cases locks n).1) [
          | inl (x, low, is, same) ↦ let e : key ≡ x = cc in take_more locks n x low ∙ ap (λ y. take n locks ++ y ∷ []) (same ∙ sym e)
          | inr (low, none) ↦ absurd cc
        ]

module _ (m : Resolving) (settled : ℕ) (removed : Bool) where
  -- The machine, further on.
  abbrev on : Resolving
  on = record m { settled = settled; removed = removed }

  removed_on : (start k : Known) → IsRemoved start k m → IsRemoved start k on
  removed_on start k is = record { settled = is.settled; reply = is.reply; heard = is.heard }

module _ (start k later : Known) (m : Resolving) (request : Request) (reply : Reply) (knows : ResolveKnows start k m) (was : WasAnsweredToIt k later request reply m) where
  is_later : IsLaterWithoutPuts m.id k later
  is_later =
      let a = was.answered in
      let event : sends_put_by m.id a.hearing.entry.event ≡ false = ap (sends_put_by m.id) a.hears.event in
      subst (IsLaterWithoutPuts m.id k) (sym a.knows) (record {
        later = later-push k a.before a.hearing a.later (is_hearing k a.before a.hearing request reply a.hears);
        unwritten = All-push (λ p. sends_put_by m.id p.entry.event ≡ false) a.later.entries a.hearing was.unwritten event;
      })

  later_knows : ResolveKnows start later m
  later_knows = goes_on start k later m knows is_later

  heard_it : HeardSince start later request reply
  heard_it = heard_earlier start k later request reply knows.since.later (answered k later request reply was.answered).heard

  -- to the request that settles a lock
  lock_heard : (key : List ℕ) → unsettled m ≡ Some key → request ≡ lock_resolve m key → reply ≡ replies.Resolved → ResolveKnows start later (record m { settled = m.settled + 1 })
  lock_heard key at asked told = record {
    may = later_knows.may;
    since = later_knows.since;
    settled =
        settled_more start later m key at later_knows.settled
        (subst (λ r. HeardSince start later (lock_resolve m key) r) told (subst (λ q. HeardSince start later q reply) asked heard_it));
    removed = λ over. removed_on m (m.settled + 1) m.removed start later (later_knows.removed over);
  }

  -- to the removal
  removal_heard : unsettled m ≡ None → request ≡ remove_of m → ResolveKnows start later (record m { removed = true })
  removal_heard none asked = record {
    may = later_knows.may;
    since = later_knows.since;
    settled = later_knows.settled;
    removed = λ over. record {
      settled = all_settled start later m later_knows none;
      reply = reply;
      heard = subst (λ q. HeardSince start later q reply) asked heard_it;
    };
  }

with_reply_knows : (start k later : Known) (m : Resolving) (request : Request) (key : List ℕ) (reply : Reply) → ResolveKnows start k m → WasAnsweredToIt k later request reply m → unsettled m ≡ Some key → request ≡ lock_resolve m key
    → ResolveKnows start later (with_reply reply m)
with_reply_knows start k later m request key replies.Resolved knows was at asked = lock_heard start k later m request replies.Resolved knows was key at asked refl
with_reply_knows start k later m request key reply knows was at asked = later_knows start k later m request reply knows was

sent_at_end : (removed : Bool) (m : Resolving) (request : Request) → at_end removed m ≡ nexts.Send request → request ≡ remove_of m
sent_at_end true m request due = absurd cc
sent_at_end false m request due = cc

heard_knows : (start k later : Known) (m : Resolving) (request : Request) (reply : Reply) (key : Option (List ℕ)) → unsettled m ≡ key → ResolveKnows start k m → finishing_due key m ≡ nexts.Send request → WasAnsweredToIt k later request reply m
    → ResolveKnows start later (finishing_heard key reply m)
heard_knows start k later m request reply (Some key) at knows due was =
    let asked : request ≡ lock_resolve m key = cc in
    with_reply_knows start k later m request key reply knows was at asked
heard_knows start k later m request reply None at knows due was = removal_heard start k later m request reply knows was at (sent_at_end m.removed m request due)

pub heard_ok : (m new : Resolving) (reply : Reply) → new ≡ finishing_after reply m → (start k later : Known) (request : Request) → ResolveKnows start k m → finishing_next m ≡ nexts.Send request → WasAnsweredToIt k later request reply m → ResolveKnows start later new
heard_ok m new reply made start k later request knows due was =
    subst (ResolveKnows start later) (sym made) (heard_knows start k later m request reply (unsettled m) refl knows due was)
