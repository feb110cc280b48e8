-- No message of an open call is a heartbeat, but for that whose purpose it is.
use Rattle.std.proofs.Common.{◌≡◌, Bool, true, false, ◌⊎◌, inl, inr, List, [], ◌∷◌, map, refl, sym, ap, subst, ℕ, All}
use Rattle.std.proofs.lemmas.List.Elements.{All-append, All-cons, All-map, All-nil, All-weaker}
use Rattle.std.specs.Prelude.{⊤}
use Rattle.pc_call.specs.Setting.{Setting}
use Rattle.pc_call.proofs.Lists.{all_unmapped}
use Rattle.pc_call.specs.declared.purpose.Purpose.{Purpose}
use Rattle.pc_call.specs.declared.purpose.Purpose.TheVariants as purposes
use Rattle.pc_call.specs.Serving.{AreReadsOf, LaysLast, LaysNext, SendsAgain, Serves, ServesWrite, StageStands}
use Rattle.pc_follows.specs.Heartbeats.{is_heartbeat}
use Rattle.pc_proto.specs.declared.call.Call.{Call}
use Rattle.pc_proto.specs.declared.call.Call.TheVariants as calls
use Rattle.pc_proto.specs.declared.request.Request.{Request}
use Rattle.pc_reads.specs.ReadsStanding.{refresh_to}
use Rattle.pc_txn.specs.declared.txn.OpenTxn.{OpenTxn}
use Rattle.pc_txn.specs.Opened.{own_get, own_scan}
use Rattle.pc_wave.specs.declared.message.Message.{Message}
use Rattle.pc_world.specs.Known.{Known}
use Rattle.pc_world.specs.Known.Statements.{Statement}
use Rattle.pc_world.specs.Known.Transactions.{Txn}
use Rattle.pc_world.specs.RangeOf.{pieces}
use Rattle.pc_world.specs.StageFate.{SentStage}

-- The request is no heartbeat.
abbrev pub IsSilent : Request → Type 0
IsSilent r = is_heartbeat r ≡ false

-- The purpose is a heartbeat.
abbrev pub IsBeatPurpose : Purpose → Type 0
IsBeatPurpose (purposes.Beat call reading) = ⊤
IsBeatPurpose (purposes.LastBeat answer reading) = ⊤
IsBeatPurpose _ = ⊥

-- Nor is any of the messages, where that is not their purpose.
abbrev pub AreSilent : Purpose → List Message → Type 0
AreSilent (purposes.Beat call reading) ms = ⊤
AreSilent (purposes.LastBeat answer reading) ms = ⊤
AreSilent _ ms = All (λ m. IsSilent m.request) ms

every : {X : Type 0} (P : X → Type 0) → ((x : X) → P x) → (xs : List X) → All P xs
every P all [] = All-nil P
every P all (x ∷ xs) = All-cons P x xs (all x) (every P all xs)

module _ (set : Setting) (k : Known) (s : Statement) (t : Txn) (x : OpenTxn) (stages : List SentStage) where
  reads_silent : (call : Call) (rs : List Request) → AreReadsOf set.splits x call rs → All IsSilent rs
  reads_silent (calls.Get key) rs e = subst (λ rs. All IsSilent rs) (sym e) (All-cons IsSilent (own_get x key) [] refl (All-nil IsSilent))
  reads_silent (calls.Scan span) rs e =
      subst (λ rs. All IsSilent rs) (sym e) (All-map IsSilent (λ p. own_scan x p.1) (pieces set.splits span) (every (λ p. IsSilent (own_scan x p.1)) (λ p. refl) (pieces set.splits span)))
  reads_silent call rs e = absurd e

  one_silent : (ms : List Message) (m : Message) → ms ≡ m ∷ [] → IsSilent m.request → All (λ m. IsSilent m.request) ms
  one_silent ms m one silent =
      let P : Message → Type 0 = λ m. IsSilent m.request in
      subst (λ ms. All P ms) (sym one) (All-cons P m [] silent (All-nil P))

  write_silent : (ms : List Message) (w : ServesWrite k s t x ms) → LaysNext k s t x w.key w.value w.m ⊎ LaysLast k t x w.key w.value w.m → IsSilent w.m.request
  write_silent ms w (inl l) = ap is_heartbeat l.said
  write_silent ms w (inr l) = ap is_heartbeat l.said

  again_silent : (call : Call) (all : Bool) (ms : List Message) → All (SendsAgain call all k t x) ms → All (λ m. IsSilent m.request) ms
  again_silent call all ms again = All-weaker (SendsAgain call all k t x) (λ m. IsSilent m.request) (λ m a. ap is_heartbeat a.said) ms again

  stage_silent : (anchor : List ℕ) (ms : List Message) → StageStands k s t x stages anchor ms → All (λ m. IsSilent m.request) ms
  stage_silent anchor [] stands = All-nil (λ m. IsSilent m.request)
  stage_silent anchor (m ∷ []) (inl next) = All-cons (λ m. IsSilent m.request) m [] (ap is_heartbeat next.said) (All-nil (λ m. IsSilent m.request))
  stage_silent anchor (m ∷ []) (inr out) = All-cons (λ m. IsSilent m.request) m [] (ap is_heartbeat out.said) (All-nil (λ m. IsSilent m.request))
  stage_silent anchor (m ∷ other ∷ more) stands = absurd stands

  pub silent : (p : Purpose) (ms : List Message) → Serves set k s t x stages p ms → AreSilent p ms
  silent (purposes.Beat call reading) ms r = tt
  silent (purposes.Prove call all) ms r = again_silent call all ms r.again
  silent purposes.Read ms r = all_unmapped IsSilent (λ m. m.request) ms (reads_silent s.call (map (λ m. m.request) ms) r.asked)
  silent purposes.Write ms r = one_silent ms r.m r.one (write_silent ms r r.lays)
  silent (purposes.Refresh n puts) ms r =
      all_unmapped IsSilent (λ m. m.request) ms
      (subst (λ rs. All IsSilent rs) (sym r.asked)
      (All-map IsSilent (refresh_to x.id x.reads.ts x.write_ts) x.reads.spans (every (λ span. IsSilent (refresh_to x.id x.reads.ts x.write_ts span)) (λ span. refl) x.reads.spans)))
  silent (purposes.Stage n) ms r =
      subst (λ ms. All (λ (m : Message). IsSilent m.request) ms) (sym r.wave.whole)
      (All-append (λ m. IsSilent m.request) r.wave.puts r.wave.stage (again_silent calls.Commit true r.wave.puts r.wave.again) (stage_silent r.commits.anchor r.wave.stage r.wave.stands))
  silent (purposes.Query n holder puts) ms r = one_silent ms r.m r.asks (ap is_heartbeat r.said)
  silent (purposes.Commit n) ms r = one_silent ms r.m r.one (ap is_heartbeat r.said)
  silent (purposes.LastBeat answer reading) ms r = tt
  silent (purposes.Abort why) ms r = one_silent ms r.m r.one (ap is_heartbeat r.said)
