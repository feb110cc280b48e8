-- What was read stays read over each evaluation, and no version of another is made at or below it.
use Rattle.std.proofs.Common.{◌≡◌, ℕ, ◌<◌, ◌≤◌, max, Bool, true, false, List, [], ◌⊎◌, inl, inr, refl, sym, subst, ◌∙◌, All, arith}
use Rattle.std.proofs.lemmas.List.Elements.{All-cons, All-contains, All-from_recursion, All-nil, recursion_from_All}
use Rattle.std.specs.List.{AllByRecursion as Each}
use Rattle.std.specs.Prelude.{IsTrue}
use Rattle.pc_base.specs.Bound.{free_from}
use Rattle.pc_base.specs.declared.span.Span.{Span}
use Rattle.pc_base.specs.declared.transaction.TxnId.{TxnId}
use Rattle.pc_base.specs.declared.version.Version.{Version}
use Rattle.pc_base.specs.Span.{contains}
use Rattle.pc_base.specs.Transaction.{same_txn}
use Rattle.pc_implicit.proofs.Bounds.{bound_goes_on}
use Rattle.pc_implicit.proofs.ClosedBounds.{free_from-rises}
use Rattle.pc_implicit.proofs.IntentKeys.{each-found, each-laid, each-left, each-replaced}
use Rattle.pc_implicit.proofs.LaidIntents.{LandsAt, Turns, own-there, put-intents, resolve-intents, resolve-turns}
use Rattle.pc_implicit.proofs.Lift.{GoesOn}
use Rattle.pc_implicit.specs.Decided.{BoundStands}
use Rattle.pc_implicit.specs.Reads.{GrowsAbove, HasRead}
use Rattle.pc_lists.proofs.Same.{same_txn-is, same_txn-self}
use Rattle.pc_proto.specs.declared.fate.Fate.{Fate}
use Rattle.pc_proto.specs.declared.record.Intent.{Intent}
use Rattle.pc_proto.specs.declared.request.Request.{Request}
use Rattle.pc_proto.specs.declared.request.Request.TheVariants as requests
use Rattle.pc_proto.specs.Intents.{own_at}
use Rattle.pc_world.proofs.KeptVersions.{keeps_versions, versions_come_from}
use Rattle.pc_world.specs.Evaluation.{bound_after, intents_after, state_after, versions_after}
use Rattle.pc_world.specs.Evaluation.Resolve.{new_versions}
use Rattle.pc_world.specs.RangeState.{RangeState}

module _ (id : TxnId) (span : Span) (ts : ℕ) where
  -- An intent in the span at or below the timestamp is the transaction's own.
  abbrev pub IsClear : List ℕ × Intent → Type 0
  IsClear e = IsTrue (contains span e.0) → e.1.ts ≤ ts → e.1.meta.id ≡ id

  -- A version in the span of another transaction is above the timestamp.
  abbrev pub IsAbove : Version → Type 0
  IsAbove v = IsTrue (contains span v.key) → (v.id ≡ id → ⊥) → ts < v.ts

  clear-row : (request : Request) (s : RangeState) → HasRead id span ts s → Each IsClear s.intents → Each IsClear (intents_after request s)
  clear-row (requests.Put meta seq at key value) s read a =
      put-intents (Each IsClear) meta seq at key value s
      (λ i lands. each-laid IsClear key i s.intents (λ k same inside low. by i lands low (same_txn meta.id id) refl) a) a
    where
      by : (i : Intent) → LandsAt meta key s i → i.ts ≤ ts → (b : Bool) → same_txn meta.id id ≡ b → i.meta.id ≡ id
      by i lands low true is = lands.mine ∙ same_txn-is meta.id id is
      by i lands low false is =
          let differ : meta.id ≡ id → ⊥ = λ same. let itself : same_txn meta.id id ≡ true = subst (λ j. same_txn meta.id j ≡ true) same (same_txn-self meta.id) in cc in
          let closed : ts < free_from meta.id s.bound = read.closed meta.id differ in
          let free = lands.free in
          absurd (omega (arith, closed, free, low))
  clear-row (requests.Resolve other key fate) s read a =
      resolve-intents (Each IsClear) other key fate s.intents a (each-left IsClear key IsClear (λ e differ h. h) s.intents a)
      (λ i at own. each-replaced IsClear key i (record i { ts = max i.ts at }) s.intents (own-there other key s.intents i own).0
      (λ k h inside low. let below : i.ts ≤ ts = omega arith in h inside below) a)
  clear-row request s read a = a

  grows-itself : (vs : List Version) → GrowsAbove id span ts vs vs
  grows-itself vs = record { kept = λ v there. there; above = λ v there. inl there }

  grows-on : (us vs ws : List Version) → GrowsAbove id span ts us vs → GrowsAbove id span ts vs ws → GrowsAbove id span ts us ws
  grows-on us vs ws g h = record {
    kept = λ v there. h.kept v (g.kept v there);
    above = λ v there. elim (h.above v there) [ inl old ↦ g.above v old | inr new ↦ inr new ];
  }

  turned-above : (other : TxnId) (key : List ℕ) (fate : Fate) (s : RangeState) → Each IsClear s.intents → (new_versions other key fate (own_at other key s.intents) ≡ []) ⊎ Turns other key fate (own_at other key s.intents) → All IsAbove (new_versions other key fate (own_at other key s.intents))
  turned-above other key fate s a (inl none) = subst (All IsAbove) (sym none) (All-nil IsAbove)
  turned-above other key fate s a (inr turns) =
      let own = own-there other key s.intents turns.intent turns.there in
      let clear : IsClear (key, turns.intent) = each-found IsClear key turns.intent s.intents own.0 a in
      let made : Version = record { key = key; ts = turns.ts; id = other; value = turns.value } in
      let above : IsAbove made =
      λ inside differ.
      let low = turns.low in
      let high : turns.ts ≤ ts → ⊥ = λ below. let under : turns.intent.ts ≤ ts = omega (arith, low, below) in differ (sym own.1 ∙ clear inside under) in
      omega (arith, high) in
      subst (All IsAbove) (sym turns.made) (All-cons IsAbove made [] above (All-nil IsAbove))

  grows-row : (request : Request) (s : RangeState) → Each IsClear s.intents → GrowsAbove id span ts s.versions (versions_after request s)
  grows-row (requests.Resolve other key fate) s a =
      let more = new_versions other key fate (own_at other key s.intents) in
      record {
        kept = λ v there. keeps_versions s.versions more v there;
        above = λ v there. elim (versions_come_from s.versions more v there) [
          | inl old ↦ inl old
          | inr new ↦ inr (All-contains IsAbove more v (turned-above other key fate s a (resolve-turns other key fate (own_at other key s.intents))) new)
        ];
      }
  grows-row request s a = grows-itself s.versions

  -- What was read of the first state is read of the second, and the versions grew above it.
  abbrev pub StaysRead : RangeState → RangeState → Type 0
  StaysRead s t = HasRead id span ts s → HasRead id span ts t × GrowsAbove id span ts s.versions t.versions

  stays-step : (request : Request) (s : RangeState) → StaysRead s (state_after request s)
  stays-step request s read =
      let a = recursion_from_All IsClear s.intents read.clear in
      let stands : BoundStands s.bound (bound_after request s) = bound_goes_on.step request s in (
        record {
          clear = All-from_recursion IsClear (intents_after request s) (clear-row request s read a);
          closed = λ other differ. let before = read.closed other differ in let rises = free_from-rises other s.bound (bound_after request s) stands in omega (arith, before, rises);
        },
        grows-row request s a,
      )

  stays-on : (s t u : RangeState) → StaysRead s t → StaysRead t u → StaysRead s u
  stays-on s t u h k read =
      let first = h read in
      let second = k first.0 in
      (second.0, grows-on s.versions t.versions u.versions first.1 second.1)

  pub read_goes_on : GoesOn StaysRead
  read_goes_on = record {
    same = λ s read. (read, grows-itself s.versions);
    on = stays-on;
    step = stays-step;
  }
