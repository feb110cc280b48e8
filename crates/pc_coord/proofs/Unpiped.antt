-- Without pipelining no open call stages, asks for a write of a stage, or gives up behind a last heartbeat: its conflicts have their rounds one by one.
use Rattle.std.proofs.Common.{◌≡◌, Bool, true, false, List, refl, sym, ap, ◌∙◌, All}
use Rattle.std.proofs.lemmas.List.Elements.{All-contains}
use Rattle.pc_base.specs.declared.transaction.TxnId.{TxnId}
use Rattle.pc_call.specs.declared.call.OpenCall.{OpenCall}
use Rattle.pc_call.specs.declared.purpose.Purpose.{Purpose}
use Rattle.pc_call.specs.declared.purpose.Purpose.TheVariants as purposes
use Rattle.pc_call.specs.Serving.{InCall, Serves}
use Rattle.pc_coord.proofs.Steps.{calls}
use Rattle.pc_coord.specs.Coming.{goes_by_sequence}
use Rattle.pc_coord.specs.Coordination.{Coordination, setting_of}
use Rattle.pc_coord.specs.declared.due.Due.TheVariants as dues
use Rattle.pc_coord.specs.Knows.{HasCallDue, Knows}
use Rattle.pc_proto.specs.declared.request.Request.{Request}
use Rattle.pc_proto.specs.declared.request.Request.TheVariants as requests
use Rattle.pc_proto.specs.Requests.{is_stage}
use Rattle.pc_staging.specs.Standing.{WasStageSent}
use Rattle.pc_world.specs.Known.{Known}
use Rattle.pc_world.specs.Known.Traffic.{Sent}
use Rattle.pc_world.specs.StageFate.{IsDead, IsLate, IsStageWith, SentStage, SomeStage}

none_sent : (sent : List Sent) (id : TxnId) (s : SentStage) → WasStageSent sent id s → All (λ m. is_stage m.request ≡ false) sent → ⊥
none_sent sent id s was none =
    let m = was.went_out.1 in
    let e : true ≡ false = sym (ap is_stage was.went_out.4) ∙ All-contains (λ m. is_stage m.request ≡ false) sent m none (was.went_out.0, was.went_out.2, was.went_out.3) in
    cc

is_stage_with : (id : TxnId) (P : SentStage → Type 0) (r : Request) → IsStageWith id P r → is_stage r ≡ true
is_stage_with id P (requests.Stage meta ts now writes locks) is = refl
is_stage_with id P r is = absurd is

no_stage : (sent : List Sent) (id : TxnId) (P : SentStage → Type 0) → SomeStage id sent P → All (λ m. is_stage m.request ≡ false) sent → ⊥
no_stage sent id P some none =
    let e : true ≡ false = sym (is_stage_with id P some.1.request some.4) ∙ All-contains (λ m. is_stage m.request ≡ false) sent some.1 none (some.0, some.2, some.3) in
    cc

-- so each conflict of it has its round as it is met
pub unpiped_goes : (loses : Bool) (c : Coordination) (k : Known) (call : OpenCall) → Knows loses c k → c.due ≡ dues.Call call → c.pipelining ≡ false → goes_by_sequence call.purpose ≡ false
unpiped_goes loses c k call knows due off = by call.purpose w.serves
  where
    n : HasCallDue loses c k call
    n = calls loses c k call knows due

    w : InCall (setting_of loses c) k n.x call.purpose call.wave
    w = n.in_call

    none : All (λ m. is_stage m.request ≡ false) k.sent
    none = knows.course.unstaged off

    by : (p : Purpose) → Serves (setting_of loses c) k w.s w.t n.x w.stages p call.wave → goes_by_sequence p ≡ false
    by (purposes.Stage refusals) s = let e : false ≡ true = sym off ∙ s.piped in cc
    by (purposes.Query refusals holder puts) s = absurd (none_sent k.sent w.t.id s.one (All-contains (WasStageSent k.sent w.t.id) w.stages s.one w.stands.staging.sent s.kept) none)
    by (purposes.LastBeat answer reading) s = absurd (no_stage k.sent w.t.id (λ s. IsLate k.heard s × (IsDead k.heard s → ⊥)) s.doubt none)
    by (purposes.Beat kept reading) s = refl
    by (purposes.Prove kept all) s = refl
    by purposes.Read s = refl
    by purposes.Write s = refl
    by (purposes.Refresh refusals puts) s = refl
    by (purposes.Commit refusals) s = refl
    by (purposes.Abort why) s = refl
