-- The messages of an open call say nothing of another transaction than the open one.
use Rattle.std.proofs.Common.{◌≡◌, ℕ, Bool, true, false, ◌⊎◌, inl, inr, List, [], ◌∷◌, find, Option, Some, refl, sym, ap, ◌∙◌, subst, All}
use Rattle.std.specs.List.{list_all}
use Rattle.std.proofs.lemmas.List.Elements.{All-append, All-cons, All-contains, All-map, All-nil, All-weaker}
use Rattle.pc_base.specs.declared.span.Span.{Span}
use Rattle.pc_base.specs.declared.transaction.TxnId.{TxnId}
use Rattle.pc_base.specs.Transaction.{same_txn}
use Rattle.pc_call.proofs.Lists.{all_unmapped}
use Rattle.pc_call.specs.declared.call.OpenCall.{OpenCall}
use Rattle.pc_call.specs.declared.purpose.Purpose.{Purpose}
use Rattle.pc_call.specs.declared.purpose.Purpose.TheVariants as purposes
use Rattle.pc_call.specs.Serving.{AreReadsOf, InCall, LaysLast, LaysNext, SendsAgain, Serves, StageStands, StageWave, IsOpenIn}
use Rattle.pc_call.specs.Setting.{Setting}
use Rattle.pc_coord.proofs.Aside.{awaited_in}
use Rattle.pc_coord.proofs.OneRecord.{said_as}
use Rattle.pc_coord.proofs.Steps.{calls, sends_step}
use Rattle.pc_coord.specs.Coordination.{Coordination, awaits_number, next_of, request_next, setting_of}
use Rattle.pc_coord.specs.declared.due.Due.{Due}
use Rattle.pc_coord.specs.declared.due.Due.TheVariants as dues
use Rattle.pc_coord.specs.Knows.{Knows}
use Rattle.pc_coord.specs.OwnMessages.{LeavesAlone}
use Rattle.pc_lists.proofs.Lists.{all_from_contains}
use Rattle.pc_lists.proofs.Same.{same_txn-is}
use Rattle.pc_proto.specs.declared.call.Call.{Call}
use Rattle.pc_proto.specs.declared.call.Call.TheVariants as calls
use Rattle.pc_proto.specs.declared.request.Request.{Request}
use Rattle.pc_reads.specs.ReadsStanding.{refresh_to}
use Rattle.pc_staging.proofs.Hears.{own_each}
use Rattle.pc_txn.specs.declared.txn.OpenTxn.{OpenTxn}
use Rattle.pc_txn.specs.Opened.{own_get, own_scan}
use Rattle.pc_wave.proofs.Changed.{found_all}
use Rattle.pc_wave.proofs.Sending.{sends_first}
use Rattle.pc_wave.specs.declared.message.Message.{Message}
use Rattle.pc_wave.specs.declared.step.Step.TheVariants as steps
use Rattle.pc_wave.specs.Messages.{first_in_conflict, has_answer, is_to_send, step_of, wave_awaits}
use Rattle.pc_world.specs.Known.{Known, first_if, open_txn}
use Rattle.pc_world.specs.Known.Traffic.{request_sent}
use Rattle.pc_world.specs.Known.Transactions.{Txn}
use Rattle.pc_world.specs.RangeOf.{pieces}

module _ (set : Setting) (k : Known) (x : OpenTxn) (p : Purpose) (ms : List Message) (w : InCall set k x p ms) (id : TxnId) (other : id ≡ w.t.id → ⊥) where
  abbrev Alone : Message → Type 0
  Alone m = LeavesAlone id m.request

  its_id : x.id ≡ w.t.id
  its_id = ap (λ (x : OpenTxn). x.id) w.stands.same

  not_same : (one : TxnId) → one ≡ w.t.id → (b : Bool) → same_txn one id ≡ b → same_txn one id ≡ false
  not_same one is true same = absurd (other (sym (same_txn-is one id same) ∙ is))
  not_same one is false same = same

  differs : same_txn x.id id ≡ false
  differs = not_same x.id its_id (same_txn x.id id) refl

  one_of : (m : Message) → ms ≡ m ∷ [] → Alone m → All Alone ms
  one_of m one is = subst (λ ms. All Alone ms) (sym one) (All-cons Alone m [] is (All-nil Alone))

  reads_alone : (call : Call) (rs : List Request) → AreReadsOf set.splits x call rs → All (LeavesAlone id) rs
  reads_alone (calls.Get key) rs e = subst (λ rs. All (LeavesAlone id) rs) (sym e) (All-cons (LeavesAlone id) (own_get x key) [] (record { about = refl; put = refl; query = refl }) (All-nil (LeavesAlone id)))
  reads_alone (calls.Scan span) rs e =
      subst (λ rs. All (LeavesAlone id) rs) (sym e)
      (All-map (LeavesAlone id) (λ p. own_scan x p.1) (pieces set.splits span)
      (all_from_contains (λ (p : ℕ × Span). LeavesAlone id (own_scan x p.1)) (pieces set.splits span) (λ p there. record { about = refl; put = refl; query = refl })))
  reads_alone call rs e = absurd e

  writes_alone : (key : List ℕ) (value : Option (List ℕ)) (m : Message) → LaysNext k w.s w.t x key value m ⊎ LaysLast k w.t x key value m → Alone m
  writes_alone key value m (inl l) = subst (LeavesAlone id) (sym l.said) (record { about = refl; put = differs; query = refl })
  writes_alone key value m (inr l) = subst (LeavesAlone id) (sym l.said) (record { about = refl; put = differs; query = refl })

  again_alone : (call : Call) (all : Bool) (m : Message) → SendsAgain call all k w.t x m → Alone m
  again_alone call all m a = subst (LeavesAlone id) (sym a.said) (record { about = refl; put = differs; query = refl })

  stages_alone : (anchor : List ℕ) (stage : List Message) → StageStands k w.s w.t x w.stages anchor stage → All Alone stage
  stages_alone anchor [] s = All-nil Alone
  stages_alone anchor (m ∷ []) (inl s) = All-cons Alone m [] (subst (LeavesAlone id) (sym s.said) (record { about = differs; put = refl; query = refl })) (All-nil Alone)
  stages_alone anchor (m ∷ []) (inr s) =
      let own = own_each k.heard w.t w.stages x.staging.stages w.stands.staging.kept s.one s.kept in
      All-cons Alone m [] (subst (LeavesAlone id) (sym s.said) (record { about = not_same s.one.meta.id own.0 (same_txn s.one.meta.id id) refl; put = refl; query = refl })) (All-nil Alone)
  stages_alone anchor (m ∷ next ∷ more) s = absurd s

  wave_alone : (anchor : List ℕ) → StageWave set.course.loses k w.s w.t x w.stages anchor ms → All Alone ms
  wave_alone anchor v =
      subst (λ ms. All Alone ms) (sym v.whole)
      (All-append Alone v.puts v.stage (All-weaker (SendsAgain calls.Commit true k w.t x) Alone (again_alone calls.Commit true) v.puts v.again) (stages_alone anchor v.stage v.stands))

  all_alone : (p : Purpose) → Serves set k w.s w.t x w.stages p ms → All Alone ms
  all_alone (purposes.Beat call reading) s = one_of s.m s.one (subst (LeavesAlone id) (sym s.said) (record { about = differs; put = refl; query = refl }))
  all_alone (purposes.Prove call all) s = All-weaker (SendsAgain call all k w.t x) Alone (again_alone call all) ms s.again
  all_alone purposes.Read s = all_unmapped (LeavesAlone id) (λ m. m.request) ms (reads_alone w.s.call _ s.asked)
  all_alone purposes.Write s = one_of s.m s.one (writes_alone s.key s.value s.m s.lays)
  all_alone (purposes.Refresh n puts) s =
      all_unmapped (LeavesAlone id) (λ m. m.request) ms
      (subst (λ rs. All (LeavesAlone id) rs) (sym s.asked)
      (All-map (LeavesAlone id) (refresh_to x.id x.reads.ts x.write_ts) x.reads.spans
      (all_from_contains (λ (span : Span). LeavesAlone id (refresh_to x.id x.reads.ts x.write_ts span)) x.reads.spans (λ span there. record { about = refl; put = refl; query = refl }))))
  all_alone (purposes.Stage n) s = wave_alone s.commits.anchor s.wave
  all_alone (purposes.Query n holder puts) s = one_of s.m s.asks (subst (LeavesAlone id) (sym s.said) (record { about = refl; put = refl; query = differs }))
  all_alone (purposes.Commit n) s = one_of s.m s.one (subst (LeavesAlone id) (sym s.said) (record { about = differs; put = refl; query = refl }))
  all_alone (purposes.LastBeat answer reading) s = one_of s.m s.one (subst (LeavesAlone id) (sym s.said) (record { about = differs; put = refl; query = refl }))
  all_alone (purposes.Abort why) s = one_of s.m s.one (subst (LeavesAlone id) (sym s.said) (record { about = differs; put = refl; query = refl }))

  -- what is to be sent says nothing of another transaction
  pub sends_alone : (request : Request) → step_of ms ≡ steps.Send request → LeavesAlone id request
  sends_alone request due =
      let f = sends_first (first_in_conflict ms) (find is_to_send ms) (list_all has_answer ms) request due in
      subst (LeavesAlone id) f.2 (found_all is_to_send Alone ms f.0 f.1 (all_alone p w.serves))

  -- nor does what is waited for
  pub awaits_alone : (number : ℕ) (asked : Request) → wave_awaits number ms ≡ true → request_sent number k.sent ≡ Some asked → LeavesAlone id asked
  awaits_alone number asked waits said =
      let m = awaited_in number ms waits in
      subst (LeavesAlone id) (said_as set k x p ms w number m.0 m.1 m.2 asked said) (All-contains Alone ms m.0 (all_alone p w.serves) m.1)

open_now : (k : Known) (t : Txn) → IsOpenIn k t → open_txn k ≡ Some t
open_now k t o = ap (λ b. first_if b k.txns) o.is_open ∙ ap (first_if true) o.first

-- what the coordinator sends next, and waits for, says nothing of a transaction that is not open
module _ (loses : Bool) (c : Coordination) (k : Known) (knows : Knows loses c k) (id : TxnId) (other : (t : Txn) → open_txn k ≡ Some t → id ≡ t.id → ⊥) where
  pub next_alone : (call : OpenCall) (request : Request) → c.due ≡ dues.Call call → request_next (next_of c) ≡ Some request → LeavesAlone id request
  next_alone call request due next =
      let n = calls loses c k call knows due in
      sends_alone (setting_of loses c) k n.x call.purpose call.wave n.in_call id (other n.in_call.t (open_now k n.in_call.t n.in_call.open_in)) request (sends_step c n.x call request n.held due next)

  pub awaited_alone : (number : ℕ) (asked : Request) → awaits_number number c.due ≡ true → request_sent number k.sent ≡ Some asked → LeavesAlone id asked
  awaited_alone number asked waits said = by c.due refl waits
    where
      by : (due : Due) → c.due ≡ due → awaits_number number due ≡ true → LeavesAlone id asked
      by dues.Nothing is waits = absurd cc
      by (dues.Tell answer) is waits = absurd cc
      by (dues.Call call) is waits =
          let n = calls loses c k call knows is in
          awaits_alone (setting_of loses c) k n.x call.purpose call.wave n.in_call id (other n.in_call.t (open_now k n.in_call.t n.in_call.open_in)) number asked waits said
