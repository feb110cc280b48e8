-- A stage that was refused passed over the conflicts of its wave: the first that is the eighth of its write blocks the commit.
use Rattle.std.proofs.Common.{◌≡◌, ℕ, ◌+◌, ◌≤◌, ◌<◌, nat_le, Bool, true, false, cond, ◌&&◌, inl, inr, List, [], ◌∷◌, ◌++◌, find, Some, None, refl, sym, ap, ◌∙◌, subst, arith, All}
use Rattle.std.proofs.lemmas.Bool.{leb-false, leb-true}
use Rattle.std.proofs.lemmas.List.Elements.{All-cons, All-head, All-nil, All-tail}
use Rattle.std.proofs.lemmas.Option.{same_Some}
use Rattle.pc_base.specs.declared.limits.TheConstants.{MOST_CONFLICTS}
use Rattle.pc_base.specs.declared.transaction.TxnId.{TxnId}
use Rattle.pc_call.specs.Met.{AreMetBy, HasMetConflict}
use Rattle.pc_call.specs.Serving.{holder_met}
use Rattle.pc_call.specs.Stages.{eighth_holder, holder_of, is_at_eighth}
use Rattle.pc_follows.specs.NextBlock.{IsAtItsEighth}
use Rattle.pc_proto.specs.declared.meta.TxnMeta.{TxnMeta}
use Rattle.pc_proto.specs.declared.reply.Reply.TheVariants as replies
use Rattle.pc_proto.specs.Replies.{holder_in}
use Rattle.pc_wave.proofs.Lists.{at_least-fewer}
use Rattle.pc_wave.specs.Course.{Course}
use Rattle.pc_wave.specs.declared.message.Message.{Message}
use Rattle.pc_wave.specs.declared.message.Progress.TheVariants as progresses
use Rattle.pc_wave.specs.Messages.{is_in_conflict, progress_in_conflict}
use Rattle.pc_wave.specs.Standing.{IsAsFar, MessageStands}
use Rattle.pc_world.specs.Known.{Known}
use Rattle.pc_world.specs.Known.Traffic.{Heard}
use Rattle.pc_world.specs.Tell.Refusal.{IsConflictOf}

-- Of these conflicts, the first that is the eighth of its write is with this holder.
pub record HasFirstEighth (k : Known) (holder : TxnId) (waiting : List Heard) : Type 0 where
  pub meta : TxnMeta
  pub key : List ℕ
  pub ts : ℕ
  pub before : List Heard
  pub conflict : Heard
  pub later : List Heard
  pub whole : waiting ≡ before ++ conflict ∷ later
  pub met : conflict.reply ≡ replies.Conflict meta ts key
  pub whose : meta.id ≡ holder
  pub eighth : IsAtItsEighth k conflict.request
  pub first : All (λ h. IsAtItsEighth k h.request → ⊥) before

module _ (c : Course) (k : Known) where
  -- one that met fewer is at no eighth
  not_eighth : (m : Message) (h : Heard) → MessageStands c k m → HasMetConflict m h → m.conflicts < MOST_CONFLICTS → IsAtItsEighth k h.request → ⊥
  not_eighth m h stands met few eight =
      stands.counted.no_more (at_least-fewer (IsConflictOf m.request) (m.conflicts + 1) MOST_CONFLICTS k.heard_now (omega (arith, few)) (subst (λ r. IsAtItsEighth k r) (sym met.asked) eight))

  at_eighth : (m : Message) (h : Heard) → MessageStands c k m → HasMetConflict m h → MOST_CONFLICTS ≤ m.conflicts → IsAtItsEighth k h.request
  at_eighth m h stands met many =
      subst (λ r. IsAtItsEighth k r) met.asked (at_least-fewer (IsConflictOf m.request) MOST_CONFLICTS m.conflicts k.heard_now many stands.counted.heard)

  with_first : (h : Heard) (holder : TxnId) (hs : List Heard) → (IsAtItsEighth k h.request → ⊥) → HasFirstEighth k holder hs → HasFirstEighth k holder (h ∷ hs)
  with_first h holder hs unlike f = record {
    meta = f.meta;
    key = f.key;
    ts = f.ts;
    before = h ∷ f.before;
    conflict = f.conflict;
    later = f.later;
    whole = ap (λ hs. h ∷ hs) f.whole;
    met = f.met;
    whose = f.whose;
    eighth = f.eighth;
    first = All-cons (λ h. IsAtItsEighth k h.request → ⊥) h f.before unlike f.first;
  }

  here_first : (m : Message) (h : Heard) (hs : List Heard) (holder : TxnId) → MessageStands c k m → HasMetConflict m h → MOST_CONFLICTS ≤ m.conflicts → holder_met m.progress ≡ Some holder → HasFirstEighth k holder (h ∷ hs)
  here_first m h hs holder stands met many whose =
      let far : IsAsFar c k m.request m.conflicts (progresses.Met h.number h.reply) = subst (λ p. IsAsFar c k m.request m.conflicts p) met.progress stands.as_far in
      record {
        meta = far.holder;
        key = far.key;
        ts = far.ts;
        before = [];
        conflict = h;
        later = hs;
        whole = refl;
        met = far.is;
        whose = same_Some far.holder.id holder (sym (ap holder_met met.progress ∙ ap holder_in far.is) ∙ whose);
        eighth = at_eighth m h stands met many;
        first = All-nil (λ h. IsAtItsEighth k h.request → ⊥);
      }

  pub first_eighth : (xs ys : List Message) (hs : List Heard) (holder : TxnId) → AreMetBy xs hs → All (MessageStands c k) xs → eighth_holder ys ≡ None → eighth_holder (xs ++ ys) ≡ Some holder → HasFirstEighth k holder hs
  first_eighth [] ys hs holder met stand none some = let e : None ≡ Some holder = sym none ∙ some in absurd cc
  first_eighth (m ∷ xs) ys [] holder met stand none some =
      first_eighth xs ys [] holder met.1 (All-tail (MessageStands c k) m xs stand) none (sym (ap (λ b. holder_of (cond (b && nat_le MOST_CONFLICTS m.conflicts) (Some m) (find is_at_eighth (xs ++ ys)))) met.0) ∙ some)
  first_eighth (m ∷ xs) ys (h ∷ hs) holder (inr later) stand none some =
      first_eighth xs ys (h ∷ hs) holder later.1 (All-tail (MessageStands c k) m xs stand) none (sym (ap (λ b. holder_of (cond (b && nat_le MOST_CONFLICTS m.conflicts) (Some m) (find is_at_eighth (xs ++ ys)))) later.0) ∙ some)
  first_eighth (m ∷ xs) ys (h ∷ hs) holder (inl (met, rest)) stand none some =
      by (λ some. first_eighth xs ys hs holder rest (All-tail (MessageStands c k) m xs stand) none some) (nat_le MOST_CONFLICTS m.conflicts) refl
    where
      stands_m : MessageStands c k m
      stands_m = All-head (MessageStands c k) m xs stand

      conflicts : is_in_conflict m ≡ true
      conflicts = ap progress_in_conflict met.progress

      found_is : (b : Bool) → nat_le MOST_CONFLICTS m.conflicts ≡ b → holder_of (cond b (Some m) (find is_at_eighth (xs ++ ys))) ≡ Some holder
      found_is b many =
          sym (ap (λ a. holder_of (cond (a && nat_le MOST_CONFLICTS m.conflicts) (Some m) (find is_at_eighth (xs ++ ys)))) conflicts ∙ ap (λ b. holder_of (cond b (Some m) (find is_at_eighth (xs ++ ys)))) many) ∙ some

      by : ((eighth_holder (xs ++ ys) ≡ Some holder) → HasFirstEighth k holder hs) → (b : Bool) → nat_le MOST_CONFLICTS m.conflicts ≡ b → HasFirstEighth k holder (h ∷ hs)
      by later true many = here_first m h hs holder stands_m met (leb-true MOST_CONFLICTS m.conflicts many) (found_is true many)
      by later false few = with_first h holder hs (not_eighth m h stands_m met (leb-false MOST_CONFLICTS m.conflicts few)) (later (found_is false few))
