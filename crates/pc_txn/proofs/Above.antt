-- Writes that stand only above a timestamp, and how far the write timestamp reaches, while the transaction goes on.
use Rattle.std.proofs.Common.{◌≡◌, ℕ, ◌<◌, ◌≤◌, max, nat_lt, Bool, true, false, cond, ◌&&◌, ◌==◌, ◌⊎◌, inl, inr, List, [], ◌∷◌, ◌++◌, map, refl, sym, ap, subst, arith, Any, Contains}
use Rattle.std.specs.List.{list_any}
use Rattle.std.proofs.lemmas.Bool.{and_parts, eqb-true, ltb-false, ltb-true}
use Rattle.std.proofs.lemmas.List.Elements.{All-cons, All-nil}
use Rattle.pc_base.specs.Span.{same_key}
use Rattle.pc_lists.proofs.Anywhere.{any_kept, any_weaker}
use Rattle.pc_lists.proofs.Lists.{all_from_contains}
use Rattle.pc_lists.proofs.Same.{same_key-is}
use Rattle.pc_txn.proofs.Lists.{any_before, any_mapped}
use Rattle.pc_txn.specs.Standing.{HasMovedOn, StandsAbove, IsMissingAt, IsMissingJustBelow, WasMissedAt, WritesWithinReach}
use Rattle.pc_world.specs.Known.{Known}
use Rattle.pc_world.specs.Known.Traffic.{Heard, Sent}
use Rattle.pc_world.specs.Known.Transactions.{Txn}
use Rattle.pc_world.specs.Known.Writes.{Write, proved_at}
use Rattle.pc_world.specs.StageFate.{SentStage}

-- The transaction is still in its epoch, and writes no earlier.
pub record StaysUp (t now : Txn) : Type 0 where
  pub id : now.id ≡ t.id
  pub epoch : now.epoch ≡ t.epoch
  pub up : t.write_ts ≤ now.write_ts

module _ (heard more : List Heard) (t now : Txn) (s : StaysUp t now) where
  -- what was missed is so
  pub missed_on : (key : List ℕ) (seq ts : ℕ) → WasMissedAt heard t.id t.epoch key seq ts → WasMissedAt (heard ++ more) now.id now.epoch key seq ts
  missed_on key seq ts was =
      subst (λ id. WasMissedAt (heard ++ more) id now.epoch key seq ts) (sym s.id)
      (subst (λ n. WasMissedAt (heard ++ more) t.id n key seq ts) (sym s.epoch) (any_kept (IsMissingAt t.id t.epoch key seq ts) heard more was))

  -- a write that stands only above goes on to do so
  pub above_on : (ts : ℕ) (w : Write) → StandsAbove heard t ts w → StandsAbove (heard ++ more) now ts w
  above_on ts w a = record {
    low = omega (arith, a.low, s.up);
    above = a.above;
    fixed = elim a.fixed [ inl proved ↦ inl proved | inr was ↦ inr (missed_on w.key w.seq ts was) ];
  }

  pub any_above : (ts : ℕ) (ws : List Write) → Any (StandsAbove heard t ts) ws → Any (StandsAbove (heard ++ more) now ts) ws
  any_above ts ws some = any_weaker (StandsAbove heard t ts) (StandsAbove (heard ++ more) now ts) (above_on ts) ws some

  pub staged_or_above : (stages : List SentStage) (ts : ℕ) (ws : List Write) → Any (λ y. y.ts ≡ ts) stages ⊎ Any (StandsAbove heard t ts) ws → Any (λ y. y.ts ≡ ts) stages ⊎ Any (StandsAbove (heard ++ more) now ts) ws
  staged_or_above stages ts ws (inl kept) = inl kept
  staged_or_above stages ts ws (inr above) = inr (any_above ts ws above)

  -- so it does where a write is proved, which leaves those that were proved, and was missed only below where it is proved
  module _ (key : List ℕ) (seq at : ℕ) (stays : (w : Write) → Contains t.writes w → list_any (λ n. true) w.proofs ≡ true → proved_at key seq at w ≡ w) (missed : (ts : ℕ) → WasMissedAt heard t.id t.epoch key seq ts → ts < at) where
    proved_more : (proofs : List ℕ) → list_any (λ n. true) (proofs ++ at ∷ []) ≡ true
    proved_more [] = refl
    proved_more (p ∷ ps) = refl

    above_where : (ts : ℕ) (w : Write) → StandsAbove heard t ts w → WasMissedAt heard t.id t.epoch w.key w.seq ts → (b : Bool) → (w.seq == seq && same_key w.key key) ≡ b
        → StandsAbove (heard ++ more) now ts (cond b (record w { proofs = w.proofs ++ at ∷ [] }) w)
    above_where ts w a was false is = above_on ts w a
    above_where ts w a was true is =
        let parts = and_parts (w.seq == seq) (same_key w.key key) is in
        let here : WasMissedAt heard t.id t.epoch key seq ts =
        subst (λ n. WasMissedAt heard t.id t.epoch key n ts) (eqb-true w.seq seq parts.0) (subst (λ place. WasMissedAt heard t.id t.epoch place w.seq ts) (same_key-is w.key key parts.1) was) in
        let high : ts < at = missed ts here in
        record {
          low = omega (arith, a.low, s.up);
          above = λ by. a.above (any_before (λ proof. proof ≤ ts) w.proofs (at ∷ []) (All-cons (λ proof. proof ≤ ts → ⊥) at [] (λ le. absurd (omega (arith, high, le))) (All-nil (λ proof. proof ≤ ts → ⊥))) by);
          fixed = inl (proved_more w.proofs);
        }

    above_proved : (ts : ℕ) (w : Write) → Contains t.writes w → StandsAbove heard t ts w → StandsAbove (heard ++ more) now ts (proved_at key seq at w)
    above_proved ts w inside a =
        elim a.fixed [
          | inl proved ↦ subst (StandsAbove (heard ++ more) now ts) (sym (stays w inside proved)) (above_on ts w a)
          | inr was ↦ above_where ts w a was (w.seq == seq && same_key w.key key) refl
        ]

    pub any_proved : (ts : ℕ) → Any (StandsAbove heard t ts) t.writes → Any (StandsAbove (heard ++ more) now ts) (map (proved_at key seq at) t.writes)
    any_proved ts some =
        any_mapped (StandsAbove heard t ts) (StandsAbove (heard ++ more) now ts) (proved_at key seq at) t.writes
        (all_from_contains (λ w. StandsAbove heard t ts w → StandsAbove (heard ++ more) now ts (proved_at key seq at w)) t.writes (above_proved ts)) some

    pub split_proved : (stages : List SentStage) (ts : ℕ) → Any (λ y. y.ts ≡ ts) stages ⊎ Any (StandsAbove heard t ts) t.writes → Any (λ y. y.ts ≡ ts) stages ⊎ Any (StandsAbove (heard ++ more) now ts) (map (proved_at key seq at) t.writes)
    split_proved stages ts (inl kept) = inl kept
    split_proved stages ts (inr above) = inr (any_proved ts above)

module _ (k now : Known) (sent_more : List Sent) (heard_more : List Heard) (moved : HasMovedOn k now sent_more heard_more) (t later : Txn) (same : later.id ≡ t.id) where
  -- the write timestamp stays within reach where it does not rise
  pub reach_on : later.write_ts ≡ t.write_ts → WritesWithinReach k t → WritesWithinReach now later
  reach_on at (inl low) = inl (omega (arith, at, low, moved.high))
  reach_on at (inr missed) =
      inr (subst (λ n. Any (IsMissingJustBelow later.id n) now.heard) (sym at)
      (subst (λ id. Any (IsMissingJustBelow id t.write_ts) now.heard) (sym same)
      (subst (λ hs. Any (IsMissingJustBelow t.id t.write_ts) hs) (sym moved.heard) (any_kept (IsMissingJustBelow t.id t.write_ts) k.heard heard_more missed))))

  -- and where it rises to what was heard
  pub reach_raised : (at : ℕ) → later.write_ts ≡ max t.write_ts at → at ≤ now.high → WritesWithinReach k t → WritesWithinReach now later
  reach_raised at is low reach = by (nat_lt t.write_ts at) refl
    where
      by : (b : Bool) → nat_lt t.write_ts at ≡ b → WritesWithinReach now later
      by true e = let up : t.write_ts < at = ltb-true t.write_ts at e in inl (omega (arith, is, up, low))
      by false e = let under : at ≤ t.write_ts = ltb-false t.write_ts at e in reach_on (omega (arith, is, under)) reach
