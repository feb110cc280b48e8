-- The messages of a wave go out in order, also those that are sent again.
use Rattle.std.proofs.Common.{◌≡◌, ℕ, Bool, true, false, ◌==◌, not, ◌⊎◌, inl, inr, All, Contains, IsTrue, List, [], ◌∷◌, ◌++◌, map, find, Some, refl, sym, ap, subst, ◌∙◌}
use Rattle.std.proofs.lemmas.Bool.{eq-eqb, ltb-true}
use Rattle.std.proofs.lemmas.List.Elements.{All-append, All-cons, All-contains, All-head, All-nil, All-tail, All-weaker}
use Rattle.std.specs.List.{list_any}
use Rattle.std.specs.Prelude.{⊤}
use Rattle.pc_base.specs.declared.span.Span.{Span}
use Rattle.pc_call.proofs.PiecesRise.{IsBefore, pieces_rise}
use Rattle.pc_call.specs.declared.call.OpenCall.{OpenCall}
use Rattle.pc_call.specs.declared.purpose.Purpose.{Purpose}
use Rattle.pc_call.specs.declared.purpose.Purpose.TheVariants as purposes
use Rattle.pc_call.specs.Serving.{AreReadsOf, InCall, PutsEarlier, SendsAgain, Serves, StageIsNext, StageIsOut, StageStands, GoesOutFirst}
use Rattle.pc_coord.proofs.Aside.{awaited_in, found_in}
use Rattle.pc_coord.proofs.OneRecord.{said_as}
use Rattle.pc_coord.specs.Coordination.{Coordination, awaits_number, next_of, request_next, setting_of}
use Rattle.pc_coord.specs.declared.due.Due.TheVariants as dues
use Rattle.pc_coord.specs.Knows.{HasCallDue, Knows}
use Rattle.pc_desk.specs.Desk.{is_on_way}
use Rattle.pc_follows.specs.PieceOrder.{AreHeardOr, IsEarlierPut, IsNextInWave, IsPieceBefore}
use Rattle.pc_follows.specs.RoundOrder.{is_lower_put}
use Rattle.pc_lists.proofs.Lists.{all_from_contains}
use Rattle.pc_proto.specs.declared.answer.Answer.TheVariants as answers
use Rattle.pc_proto.specs.declared.call.Call.{Call}
use Rattle.pc_proto.specs.declared.call.Call.TheVariants as calls
use Rattle.pc_proto.specs.declared.request.Request.{Request}
use Rattle.pc_proto.specs.declared.request.Request.TheVariants as requests
use Rattle.pc_proto.specs.Requests.{is_put, is_refresh}
use Rattle.pc_reads.specs.ReadsStanding.{refresh_to}
use Rattle.pc_session.proofs.Again.{and_first}
use Rattle.pc_session.proofs.Away.{any_there}
use Rattle.pc_session.proofs.InTurn.{pairwise_two}
use Rattle.pc_session.proofs.TurnsOn.{IsOpenedAs, sends_of, step_sends}
use Rattle.pc_session.proofs.Wanted.{proves_in_order}
use Rattle.pc_session.specs.InCall.{HasOpenCall, IsHeardOrAway}
use Rattle.pc_session.specs.InTurn.{GoesBefore, HasRoundsInTurn, HasRoundsPiped, KeepsTurn, MayStandBehind}
use Rattle.pc_session.specs.Session.{SessionMeaning, waits_aside, session_knows}
use Rattle.pc_txn.specs.Opened.{own_get, own_scan}
use Rattle.pc_wave.proofs.Changed.{found_passes}
use Rattle.pc_wave.proofs.Hearing.{awaits_as}
use Rattle.pc_wave.proofs.Sending.{sends_first}
use Rattle.pc_wave.specs.declared.message.Message.{Message}
use Rattle.pc_wave.specs.declared.message.Progress.{Progress}
use Rattle.pc_wave.specs.declared.message.Progress.TheVariants as progresses
use Rattle.pc_wave.specs.Messages.{first_in_conflict, has_answer, is_to_send, progress_awaits, progress_to_send}
use Rattle.pc_wave.specs.Standing.{Pairwise}
use Rattle.pc_world.specs.Known.{Known}
use Rattle.pc_world.specs.Known.Traffic.{Sent, request_sent}
use Rattle.pc_world.specs.RangeOf.{pieces}
use Rattle.pc_world.specs.Tell.Refusal.{is_heard}
use Rattle.std.specs.List.{list_all}

-- The other request may be on its way in the same wave before this one.
abbrev MayGoBefore : Request → Request → Type 0
MayGoBefore (requests.Scan id epoch seq ts span) r = IsPieceBefore span r
MayGoBefore (requests.Put meta seq ts key value) r = IsEarlierPut seq r
MayGoBefore (requests.Stage meta ts now writes locks) r = IsTrue (is_put r)
MayGoBefore (requests.Refresh id from to span) r = IsTrue (is_refresh r)
MayGoBefore _ r = ⊥

next_in_wave : (k : Known) (request : Request) → AreHeardOr (MayGoBefore request) k → IsNextInWave k request
next_in_wave k (requests.Scan id epoch seq ts span) all = all
next_in_wave k (requests.Put meta seq ts key value) all = all
next_in_wave k (requests.Stage meta ts now writes locks) all = all
next_in_wave k (requests.Refresh id from to span) all = all
next_in_wave k request all = all

-- The first message goes before the other.
abbrev GoesInOrder : Message → Message → Type 0
GoesInOrder one other = MayGoBefore other.request one.request

-- ---- the order of a wave, by its purpose

alone : (R : Message → Message → Type 0) (ms : List Message) (m : Message) → ms ≡ m ∷ [] → Pairwise R ms
alone R ms m one = subst (Pairwise R) (sym one) (All-nil (R m), tt)

one_alone : (R : Message → Message → Type 0) (r : Request) (ms : List Message) → map (λ m. m.request) ms ≡ r ∷ [] → Pairwise R ms
one_alone R r [] same = tt
one_alone R r (m ∷ []) same = (All-nil (R m), tt)
one_alone R r (m ∷ other ∷ ms) same = absurd cc

put_before : (one other : Request) → IsTrue (is_lower_put one other) → MayGoBefore other one
put_before (requests.Put meta seq ts key value) (requests.Put to later at place what) before = ltb-true seq later before
put_before one other before = absurd cc

puts_order : (ms : List Message) → Pairwise PutsEarlier ms → Pairwise GoesInOrder ms
puts_order [] pairs = tt
puts_order (m ∷ ms) pairs = (All-weaker (PutsEarlier m) (GoesInOrder m) (λ y before. put_before m.request y.request before) ms pairs.0, puts_order ms pairs.1)

module _ {X : Type 0} (f : X → Request) (Q : X → X → Type 0) (on : (p q : X) → Q p q → MayGoBefore (f q) (f p)) where
  all_order : (p : X) (one : Message) (ps : List X) (ms : List Message) → one.request ≡ f p → map (λ m. m.request) ms ≡ map f ps → All (Q p) ps → All (GoesInOrder one) ms
  all_order p one ps [] first same before = All-nil (GoesInOrder one)
  all_order p one [] (z ∷ ms) first same before = absurd cc
  all_order p one (q ∷ ps) (z ∷ ms) first same before =
      let here : z.request ≡ f q = cc in
      let later : map (λ (m : Message). m.request) ms ≡ map f ps = cc in
      All-cons (GoesInOrder one) z ms (subst (λ r. MayGoBefore r one.request) (sym here) (subst (MayGoBefore (f q)) (sym first) (on p q (All-head (Q p) q ps before)))) (all_order p one ps ms first later (All-tail (Q p) q ps before))

  mapped_order : (ps : List X) (ms : List Message) → map (λ m. m.request) ms ≡ map f ps → Pairwise Q ps → Pairwise GoesInOrder ms
  mapped_order ps [] same rise = tt
  mapped_order [] (z ∷ ms) same rise = absurd cc
  mapped_order (p ∷ ps) (z ∷ ms) same rise =
      let here : z.request ≡ f p = cc in
      let later : map (λ (m : Message). m.request) ms ≡ map f ps = cc in
      (all_order p z ps ms here later rise.0, mapped_order ps ms later rise.1)

any_pairs : {X : Type 0} (xs : List X) → Pairwise (λ (p q : X). ⊤) xs
any_pairs [] = tt
any_pairs (x ∷ xs) = (all_from_contains (λ y. ⊤) xs (λ y there. tt), any_pairs xs)

pairs_both : (R : Message → Message → Type 0) (xs ys : List Message) → Pairwise R xs → Pairwise R ys → All (λ x. All (R x) ys) xs → Pairwise R (xs ++ ys)
pairs_both R [] ys one other across = other
pairs_both R (x ∷ xs) ys one other across = (All-append (R x) xs ys one.0 (All-head (λ x. All (R x) ys) x xs across), pairs_both R xs ys one.1 other (All-tail (λ x. All (R x) ys) x xs across))

module _ (c : Coordination) (k : Known) (knows : Knows false c k) (call : OpenCall) (at : HasCallDue false c k call) where
  abbrev w : InCall (setting_of false c) k at.x call.purpose call.wave
  w = at.in_call

  read_order : (asked : Call) → AreReadsOf c.splits at.x asked (map (λ m. m.request) call.wave) → Pairwise GoesInOrder call.wave
  read_order (calls.Get key) r = one_alone GoesInOrder (own_get at.x key) call.wave r
  read_order (calls.Scan span) r = mapped_order (λ (p : ℕ × Span). own_scan at.x p.1) IsBefore (λ p q before. before) (pieces c.splits span) call.wave r (pieces_rise c.splits span knows.course.rising)
  read_order asked r = absurd r

  stage_order : (n : ℕ) → Serves (setting_of false c) k w.s w.t at.x w.stages (purposes.Stage n) call.wave → Pairwise GoesInOrder call.wave
  stage_order n r =
      subst (Pairwise GoesInOrder) (sym r.wave.whole)
      (pairs_both GoesInOrder r.wave.puts r.wave.stage (puts_order r.wave.puts r.wave.in_order) (stage_alone r.wave.stage r.wave.stands)
      (All-weaker (SendsAgain calls.Commit true k w.t at.x) (λ put. All (GoesInOrder put) r.wave.stage) (λ put again. before_stage put again r.wave.stage r.wave.stands) r.wave.puts r.wave.again))
    where
      stage_alone : (stage : List Message) → StageStands k w.s w.t at.x w.stages r.commits.anchor stage → Pairwise GoesInOrder stage
      stage_alone [] stands = tt
      stage_alone (m ∷ []) stands = (All-nil (GoesInOrder m), tt)
      stage_alone (m ∷ other ∷ more) stands = absurd stands

      at_stage : (m : Message) (put : Request) → is_put put ≡ true → StageIsNext k w.s w.t at.x r.commits.anchor m ⊎ StageIsOut k w.t at.x w.stages m → MayGoBefore m.request put
      at_stage m put is (inl next) = subst (λ q. MayGoBefore q put) (sym next.said) is
      at_stage m put is (inr out) = subst (λ q. MayGoBefore q put) (sym out.said) is

      before_stage : (put : Message) → SendsAgain calls.Commit true k w.t at.x put → (stage : List Message) → StageStands k w.s w.t at.x w.stages r.commits.anchor stage → All (GoesInOrder put) stage
      before_stage put again [] stands = All-nil (GoesInOrder put)
      before_stage put again (m ∷ []) stands = All-cons (GoesInOrder put) m [] (at_stage m put.request (ap is_put again.said) stands) (All-nil (GoesInOrder put))
      before_stage put again (m ∷ other ∷ more) stands = absurd stands

  pub wave_order : Pairwise GoesInOrder call.wave
  wave_order = by call.purpose refl w.serves
    where
      by : (p : Purpose) → call.purpose ≡ p → Serves (setting_of false c) k w.s w.t at.x w.stages p call.wave → Pairwise GoesInOrder call.wave
      by (purposes.Beat kept reading) is r = alone GoesInOrder call.wave r.m r.one
      by (purposes.Prove kept all) is r = puts_order call.wave (proves_in_order c k call at kept all is)
      by purposes.Read is r = read_order w.s.call r.asked
      by purposes.Write is r = alone GoesInOrder call.wave r.m r.one
      by (purposes.Refresh n puts) is r = mapped_order (refresh_to at.x.id at.x.reads.ts at.x.write_ts) (λ p q. ⊤) (λ p q any. refl) at.x.reads.spans call.wave r.asked (any_pairs at.x.reads.spans)
      by (purposes.Stage n) is r = stage_order n r
      by (purposes.Query n holder puts) is r = alone GoesInOrder call.wave r.m r.asks
      by (purposes.Commit n) is r = alone GoesInOrder call.wave r.m r.one
      by (purposes.LastBeat answer reading) is r = alone GoesInOrder call.wave r.m r.one
      by (purposes.Abort why) is r = alone GoesInOrder call.wave r.m r.one

-- ---- what is on its way goes before what is to be sent

plain_first : (k : Known) (one other : Message) → GoesBefore one other → GoesOutFirst k one other
plain_first k one other before is number waits = absurd (by one.progress before is)
  where
    by : (p : Progress) → MayStandBehind p other.progress → progress_to_send p ≡ true → ⊥
    by progresses.ToSend may to_send = subst (MayStandBehind progresses.ToSend) (awaits_as number other.progress waits) may
    by (progresses.Sent sent) may to_send = let e : false ≡ true = to_send in cc e
    by (progresses.Met sent conflict) may to_send = let e : false ≡ true = to_send in cc e
    by (progresses.Answered sent reply) may to_send = let e : false ≡ true = to_send in cc e

pairs_weaker : (R S : Message → Message → Type 0) → ((one other : Message) → R one other → S one other) → (ms : List Message) → Pairwise R ms → Pairwise S ms
pairs_weaker R S on [] pairs = tt
pairs_weaker R S on (m ∷ ms) pairs = (All-weaker (R m) (S m) (on m) ms pairs.0, pairs_weaker R S on ms pairs.1)

pairs_and : (R S : Message → Message → Type 0) (ms : List Message) → Pairwise R ms → Pairwise S ms → Pairwise (λ one other. R one other × S one other) ms
pairs_and R S [] one other = tt
pairs_and R S (m ∷ ms) one other = (
  all_from_contains (λ y. R m y × S m y) ms (λ y there. (All-contains (R m) ms y one.0 there, All-contains (S m) ms y other.0 there)),
  pairs_and R S ms one.1 other.1,
)

module _ {C : Type 0} (s : SessionMeaning C) (reading : ℕ) (request : Request) (calls_are : HasOpenCall s reading) (due : request_next (next_of s.coordinator) ≡ Some request) where
  abbrev c : Coordination
  c = s.coordinator

  abbrev k : Known
  k = session_knows s

  abbrev o : IsOpenedAs c k
  o = sends_of c k request calls_are.one.knows due

  first_order : Pairwise (GoesOutFirst k) o.o.call.wave
  first_order = by c.pipelining calls_are.turn
    where
      by : (b : Bool) → KeepsTurn b k c.due → Pairwise (GoesOutFirst k) o.o.call.wave
      by false t = let plain : HasRoundsInTurn k o.o.call.wave = subst (KeepsTurn false k) o.due t in pairs_weaker GoesBefore (GoesOutFirst k) (plain_first k) o.o.call.wave plain.order
      by true t = let piped : HasRoundsPiped k o.o.call = subst (KeepsTurn true k) o.due t in piped.order

  -- The message that goes out.
  abbrev first : (m : Message) × (find is_to_send o.o.call.wave ≡ Some m) × (m.request ≡ request)
  first = sends_first (first_in_conflict o.o.call.wave) (find is_to_send o.o.call.wave) (list_all has_answer o.o.call.wave) request (step_sends c k request calls_are.one.knows due)

  not_told : c.due ≡ dues.Tell answers.Written → ⊥
  not_told told = let e : dues.Call o.o.call ≡ dues.Tell answers.Written = sym o.due ∙ told in cc e

  on_way_before : (m : Sent) → Contains k.sent_now m → is_on_way m.number s.desk ≡ true → MayGoBefore request m.request
  on_way_before m there on =
      let waits : awaits_number m.number c.due ≡ true = and_first (awaits_number m.number c.due) (not (waits_aside m.number s.desk)) (sym (calls_are.way m.number) ∙ on) in
      let f = awaited_in m.number o.o.call.wave (sym (ap (awaits_number m.number) o.due) ∙ waits) in
      let y = f.0 in
      let said : request_sent m.number k.sent ≡ Some m.request = All-contains (λ (m : Sent). request_sent m.number k.sent ≡ Some m.request) k.sent_now m calls_are.apart.said there in
      let same : y.request ≡ m.request = said_as (setting_of false c) k o.o.txn o.o.call.purpose o.o.call.wave o.in_call m.number y f.1 f.2 m.request said in
      let g = first in
      let to_send : is_to_send g.0 ≡ true = found_passes is_to_send o.o.call.wave g.0 g.1 in
      let differ : y ≡ g.0 → ⊥ = λ e. not_both m.number y.progress (ap is_to_send e ∙ to_send) f.2 in
      let both = pairs_and GoesInOrder (GoesOutFirst k) o.o.call.wave (wave_order c k calls_are.one.knows o.o.call o.at) first_order in
      elim (pairwise_two (λ one other. GoesInOrder one other × GoesOutFirst k one other) o.o.call.wave y g.0 both f.1 (found_in is_to_send o.o.call.wave g.0 g.1) differ) [
        | inl before ↦ subst (MayGoBefore request) same (subst (λ r. MayGoBefore r y.request) g.2 before.0)
        | inr behind ↦ absurd (
            let none : list_any (λ (x : Sent). x.number == m.number) k.sent_now ≡ false = behind.1 to_send m.number f.2 in
            let some : list_any (λ (x : Sent). x.number == m.number) k.sent_now ≡ true = any_there (λ (x : Sent). x.number == m.number) k.sent_now m (eq-eqb m.number m.number refl) there in
            let e : true ≡ false = sym some ∙ none in
            cc e)
      ]
    where
      not_both : (number : ℕ) (p : Progress) → progress_to_send p ≡ true → progress_awaits number p ≡ true → ⊥
      not_both number progresses.ToSend to_send waits = let e : false ≡ true = waits in cc e
      not_both number (progresses.Sent sent) to_send waits = let e : false ≡ true = to_send in cc e
      not_both number (progresses.Met sent conflict) to_send waits = let e : false ≡ true = to_send in cc e
      not_both number (progresses.Answered sent reply) to_send waits = let e : false ≡ true = to_send in cc e

  -- what goes out is the next in the order of its wave
  pub next_piece : IsNextInWave k request
  next_piece =
      next_in_wave k request
      (all_from_contains (λ m. IsTrue (is_heard k.heard_now m) ⊎ MayGoBefore request m.request) k.sent_now (λ m there. elim (All-contains (IsHeardOrAway s) k.sent_now m calls_are.sent there) [
        | inl heard ↦ inl heard
        | inr (inl on) ↦ inr (on_way_before m there on)
        | inr (inr told) ↦ absurd (not_told told.1)
      ]))
