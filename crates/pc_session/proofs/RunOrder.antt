-- The messages of a call that may meet intents stand in the order in which their conflicts have their rounds.
use Rattle.std.proofs.Common.{◌≡◌, ℕ, Bool, true, false, ◌||◌, ◌⊎◌, inl, inr, All, List, [], ◌∷◌, map, IsTrue, nat_lt, refl, sym, ap, subst, ◌∙◌, arith}
use Rattle.std.proofs.lemmas.Bool.{ltb-true}
use Rattle.std.proofs.lemmas.List.Elements.{All-cons, All-head, All-nil, All-tail, All-weaker}
use Rattle.std.specs.declared.cmp.Ordering.{Ordering}
use Rattle.std.specs.declared.cmp.Ordering.TheVariants.{Less, Equal, Greater}
use Rattle.std.specs.Ordering.{is_lt, ordering_reverse}
use Rattle.pc_base.specs.declared.span.Span.{Span}
use Rattle.pc_base.specs.SpanOrder.{span_cmp}
use Rattle.pc_call.proofs.PiecesRise.{IsBefore, pieces_rise}
use Rattle.pc_call.specs.declared.call.OpenCall.{OpenCall}
use Rattle.pc_call.specs.declared.purpose.Purpose.{Purpose}
use Rattle.pc_call.specs.declared.purpose.Purpose.TheVariants as purposes
use Rattle.pc_call.specs.Serving.{AreReadsOf, InCall, PutsEarlier, Serves}
use Rattle.pc_coord.specs.Coming.{goes_by_sequence}
use Rattle.pc_coord.specs.Coordination.{Coordination, setting_of}
use Rattle.pc_coord.specs.Knows.{HasCallDue, Knows}
use Rattle.pc_follows.specs.RoundOrder.{goes_first, is_lower_put}
use Rattle.pc_proto.specs.declared.call.Call.{Call}
use Rattle.pc_proto.specs.declared.call.Call.TheVariants as calls
use Rattle.pc_proto.specs.declared.request.Request.{Request}
use Rattle.pc_proto.specs.declared.request.Request.TheVariants as requests
use Rattle.pc_reads.proofs.Ordered.{span_total}
use Rattle.pc_session.proofs.CallKinds.{AsksSo, meets_none, refresh_meets_none}
use Rattle.pc_session.proofs.PipedWaves.{HasRoundFirst}
use Rattle.pc_session.proofs.Wanted.{proves_in_order}
use Rattle.pc_txn.specs.declared.txn.OpenTxn.{OpenTxn}
use Rattle.pc_txn.specs.Opened.{own_get, own_scan}
use Rattle.pc_wave.specs.declared.message.Message.{Message}
use Rattle.pc_wave.specs.Standing.{Pairwise}
use Rattle.pc_world.specs.Known.{Known}
use Rattle.pc_world.specs.RangeOf.{pieces}

-- ---- puts by sequence

not_above : (b : Bool) (n m : ℕ) → nat_lt n m ≡ true → nat_lt m n ≡ b → b ≡ false
not_above false n m low e = refl
not_above true n m low e = let a = ltb-true n m low in let c = ltb-true m n e in absurd (omega (arith, a, c))

put_first : (one other : Request) → IsTrue (is_lower_put one other) → (goes_first one other ≡ true) × (goes_first other one ≡ false)
put_first (requests.Put meta seq ts key value) (requests.Put to later at place what) before = (ap (λ b. b || false) before, ap (λ b. b || false) (not_above (nat_lt later seq) seq later before refl))
put_first one other before = absurd cc

pub puts_run : (ms : List Message) → Pairwise PutsEarlier ms → Pairwise HasRoundFirst ms
puts_run [] pairs = tt
puts_run (m ∷ ms) pairs = (All-weaker (PutsEarlier m) (HasRoundFirst m) (λ y before. put_first m.request y.request before) ms pairs.0, puts_run ms pairs.1)

-- ---- pieces in key order

reverse_lt : (o : Ordering) → is_lt o ≡ true → is_lt (ordering_reverse o) ≡ false
reverse_lt Less is = refl
reverse_lt Equal is = absurd cc
reverse_lt Greater is = absurd cc

module _ (x : OpenTxn) where
  piece_first : (p q : ℕ × Span) (one other : Message) → one.request ≡ own_scan x p.1 → other.request ≡ own_scan x q.1 → IsBefore p q → HasRoundFirst one other
  piece_first p q one other first second before = (
    ap (λ r. goes_first r other.request) first ∙ (ap (goes_first (own_scan x p.1)) second ∙ before),
    ap (λ r. goes_first r one.request) second ∙ (ap (goes_first (own_scan x q.1)) first ∙ (ap is_lt (span_total.antisymm q.1 p.1) ∙ reverse_lt (span_cmp p.1 q.1) before)),
  )

  all_first : (p : ℕ × Span) (one : Message) (ps : List (ℕ × Span)) (ms : List Message) → one.request ≡ own_scan x p.1 → map (λ m. m.request) ms ≡ map (λ p. own_scan x p.1) ps → All (IsBefore p) ps → All (HasRoundFirst one) ms
  all_first p one ps [] first same before = All-nil (HasRoundFirst one)
  all_first p one [] (z ∷ ms) first same before = absurd cc
  all_first p one (q ∷ ps) (z ∷ ms) first same before =
      let here : z.request ≡ own_scan x q.1 = cc in
      let later : map (λ (m : Message). m.request) ms ≡ map (λ (p : ℕ × Span). own_scan x p.1) ps = cc in
      All-cons (HasRoundFirst one) z ms (piece_first p q one z first here (All-head (IsBefore p) q ps before)) (all_first p one ps ms first later (All-tail (IsBefore p) q ps before))

  pub pieces_run : (ps : List (ℕ × Span)) (ms : List Message) → map (λ m. m.request) ms ≡ map (λ p. own_scan x p.1) ps → Pairwise IsBefore ps → Pairwise HasRoundFirst ms
  pieces_run ps [] same rise = tt
  pieces_run [] (z ∷ ms) same rise = absurd cc
  pieces_run (p ∷ ps) (z ∷ ms) same rise =
      let here : z.request ≡ own_scan x p.1 = cc in
      let later : map (λ (m : Message). m.request) ms ≡ map (λ (p : ℕ × Span). own_scan x p.1) ps = cc in
      (all_first p z ps ms here later rise.0, pieces_run ps ms later rise.1)

one_runs : (ms : List Message) (m : Message) → ms ≡ m ∷ [] → Pairwise HasRoundFirst ms
one_runs ms m one = subst (Pairwise HasRoundFirst) (sym one) (All-nil (HasRoundFirst m), tt)

one_get : (r : Request) (ms : List Message) → map (λ m. m.request) ms ≡ r ∷ [] → Pairwise HasRoundFirst ms
one_get r [] same = tt
one_get r (m ∷ []) same = (All-nil (HasRoundFirst m), tt)
one_get r (m ∷ other ∷ ms) same = absurd cc

-- ---- a call that goes by no sequence

module _ (c : Coordination) (k : Known) (knows : Knows false c k) (call : OpenCall) (at : HasCallDue false c k call) where
  abbrev w : InCall (setting_of false c) k at.x call.purpose call.wave
  w = at.in_call

  reads_run : (asked : Call) → AreReadsOf c.splits at.x asked (map (λ m. m.request) call.wave) → Pairwise HasRoundFirst call.wave
  reads_run (calls.Get key) r = one_get (own_get at.x key) call.wave r
  reads_run (calls.Scan span) r = pieces_run at.x (pieces c.splits span) call.wave r (pieces_rise c.splits span knows.course.rising)
  reads_run asked r = absurd r

  -- its messages stand in that order, or meet no intent
  pub runs_in_order : goes_by_sequence call.purpose ≡ false → Pairwise HasRoundFirst call.wave ⊎ All (AsksSo meets_none) call.wave
  runs_in_order isnt = by call.purpose refl isnt w.serves
    where
      by : (p : Purpose) → call.purpose ≡ p → goes_by_sequence p ≡ false → Serves (setting_of false c) k w.s w.t at.x w.stages p call.wave → Pairwise HasRoundFirst call.wave ⊎ All (AsksSo meets_none) call.wave
      by (purposes.Beat kept reading) is isnt r = inl (one_runs call.wave r.m r.one)
      by (purposes.Prove kept all) is isnt r = inl (puts_run call.wave (proves_in_order c k call at kept all is))
      by purposes.Read is isnt r = inl (reads_run w.s.call r.asked)
      by purposes.Write is isnt r = inl (one_runs call.wave r.m r.one)
      by (purposes.Refresh n puts) is isnt r = inr (refresh_meets_none (setting_of false c) k w.s w.t at.x w.stages n puts call.wave r)
      by (purposes.Commit n) is isnt r = inl (one_runs call.wave r.m r.one)
      by (purposes.Abort why) is isnt r = inl (one_runs call.wave r.m r.one)
      by (purposes.Stage n) is isnt r = absurd cc
      by (purposes.Query n holder puts) is isnt r = absurd cc
      by (purposes.LastBeat answer reading) is isnt r = absurd cc
