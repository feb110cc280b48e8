-- The messages of a stage may be sent, as far as their purpose goes.
use Rattle.std.proofs.Common.{◌≡◌, ◌≢◌, ℕ, ◌+◌, ◌≤◌, Bool, true, false, ◌&&◌, ◌==◌, ◌⊎◌, inl, inr, List, [], ◌∷◌, IfSome, None, Option, Some, length, refl, sym, ap, ◌∙◌, subst, arith, All, Contains}
use Rattle.std.proofs.lemmas.List.Elements.{All-append, All-cons, All-contains, All-nil, All-weaker}
use Rattle.std.proofs.lemmas.Bool.{ne_eqb}
use Rattle.pc_base.specs.declared.actor.ActorId.TheVariants as actors
use Rattle.pc_call.proofs.Facts.{open_is, unmoved}
use Rattle.pc_call.proofs.QueryReady.{pipelined_by, within_reach}
use Rattle.pc_call.proofs.Ready.{IsReady, IsReadyToSend, put_again, ready_again, to_send_unanswered}
use Rattle.pc_call.proofs.Rounding.{not_empty}
use Rattle.pc_call.specs.declared.purpose.Purpose.{Purpose}
use Rattle.pc_call.specs.declared.purpose.Purpose.TheVariants as purposes
use Rattle.pc_call.specs.Serving.{InCall, SendsAgain, Serves, ServesStage, StageIsNext, StageIsOut, StageStands, out_of}
use Rattle.pc_call.specs.Setting.{Setting}
use Rattle.pc_call.specs.Suiting.{SuitsFlightIn}
use Rattle.pc_flight.specs.declared.write.WriteInFlight.{WriteInFlight}
use Rattle.pc_follows.specs.CallMessages.{IsFor, IsForCall, IsPipelinedFor}
use Rattle.pc_follows.specs.EarlyTell.{IsCommitKnown}
use Rattle.pc_follows.specs.Eighth.{WasMovedEighth}
use Rattle.pc_proto.specs.declared.call.Call.TheVariants as calls
use Rattle.pc_proto.specs.declared.request.Request.{Request}
use Rattle.pc_staging.proofs.Hears.{own_each}
use Rattle.pc_staging.specs.Kept.{is_just}
use Rattle.pc_staging.specs.Standing.{WasStageSent, WasStagedAt}
use Rattle.pc_txn.proofs.Rows.{untold}
use Rattle.pc_txn.proofs.StagedWrites.{may_stage}
use Rattle.pc_txn.specs.Counted.{IsCounted}
use Rattle.pc_txn.specs.declared.txn.OpenTxn.{OpenTxn}
use Rattle.pc_txn.specs.Opened.{put_at}
use Rattle.pc_txn.specs.Staged.{stage_now}
use Rattle.pc_txn.specs.Standing.{IsStageHere, TxnStands}
use Rattle.pc_txn.specs.Writing.{WasAskedAt}
use Rattle.pc_wave.specs.declared.message.Message.{Message}
use Rattle.pc_wave.specs.Messages.{is_to_send}
use Rattle.pc_world.specs.Known.{Known, call_in, reading_in}
use Rattle.pc_world.specs.Known.Transactions.{Txn}
use Rattle.pc_world.specs.StageFate.{IsLate, stage_request}

and_none : (b : Bool) → (b && false) ≡ false
and_none true = refl
and_none false = refl

module _ (session clock count : ℕ) (set : Setting) (k : Known) (x : OpenTxn) (p : Purpose) (ms : List Message) (counted : IsCounted session clock count k) (w : InCall set k x p ms) (n : ℕ) (e : p ≡ purposes.Stage n) where
  r : ServesStage set.course n k w.s w.t x w.stages ms
  r = subst (λ q. Serves set k w.s w.t x w.stages q ms) e w.serves

  st : TxnStands k w.stages None w.t x
  st = subst (λ o. TxnStands k w.stages o w.t x) (ap (λ q. out_of q ms) e) w.stands

  unmoved_now : WasMovedEighth k → ⊥
  unmoved_now = unmoved k n r.commits.moves (omega (arith, r.commits.few))

  low : x.write_ts ≤ k.top + 1
  low = let top = within_reach k w.t counted.below counted.heard_low st.below in let at : x.write_ts ≡ w.t.write_ts = ap (λ x. x.write_ts) st.same in omega (arith, top, at)

  -- while a write is in flight the transaction is not decided
  not_decided : (length x.in_flight == 0) ≡ false → (other : Txn) (ts : ℕ) → IsCommitKnown k other ts → ⊥
  not_decided some = untold k w.stages None w.t x st (ap (λ b. b && is_just w.t.write_ts x.staging.staged) some) (open_is k w.t w.open_in)

  some_is : (flight : List WriteInFlight) → flight ≢ [] → (length flight == 0) ≡ false
  some_is [] some = absurd (some refl)
  some_is (v ∷ flight) some = not_empty (v ∷ flight) v (0, omega arith, refl)

  some_piped : (b : Bool) (flight : List WriteInFlight) → SuitsFlightIn b calls.Commit flight → flight ≢ [] → b ≡ true
  some_piped true flight suits some = refl
  some_piped false [] suits some = absurd (some refl)
  some_piped false (v ∷ flight) suits some = absurd suits

  suits : SuitsFlightIn set.course.pipelines calls.Commit x.in_flight
  suits = subst (λ call. SuitsFlightIn set.course.pipelines call x.in_flight) r.commits.call w.plain

  for_commit : (q : Request) → set.course.pipelines ≡ true → IsPipelinedFor k calls.Commit q → IsForCall set.course.pipelines k q
  for_commit q piped is = record {
    s = w.s;
    opened = w.opened;
    kind = inl (subst (λ b. IsFor b k w.s.call q) (sym piped) (inr (subst (λ call. IsPipelinedFor k call q) (sym r.commits.call) is)));
  }

  put_ready : (m : Message) → SendsAgain calls.Commit true k w.t x m → IsReadyToSend set session k m
  put_ready m a to_send =
      let there : Contains x.in_flight a.w = a.there (to_send_unanswered m.progress to_send) in
      let when : (a.ts ≡ w.t.write_ts) ⊎ WasAskedAt w.t a.w.seq a.ts = elim a.goes_at [ inl now ↦ inl now.1 | inr was ↦ inr was.0 ] in
      let none = not_decided (not_empty x.in_flight a.w there) in
      subst (λ q. IsReady set session k q) (sym a.said)
      (ready_again session clock count set k w.t x w.s counted w.stages st none w.open_in w.opened a.w there a.anchor a.anchored a.ts a.low when
      (for_commit (put_at x a.anchor a.ts a.w) (pipelined_by set.course.pipelines x.in_flight a.w suits there)
      (inl (put_again session clock count set k w.t x w.s counted w.stages st none w.open_in w.opened a.w there a.anchor a.anchored a.ts a.low when calls.Commit a.before tt))) unmoved_now)

  stage_next : (m : Message) → StageIsNext k w.s w.t x r.commits.anchor m → IsReady set session k m.request
  stage_next m next =
      subst (λ q. IsReady set session k q) (sym next.said) (record {
        row =
            may_stage set.splits (actors.Session session) k w.stages None w.t x st r.commits.anchor w.s.reading (open_is k w.t w.open_in) (ap call_in w.opened ∙ ap (λ c. Some c) r.commits.call) (ap reading_in w.opened) r.commits.anchored next.some next.passed next.good;
        stamps = All-cons (λ ts. ts ≤ k.top + 1) x.write_ts [] low (All-nil (λ ts. ts ≤ k.top + 1));
        kind = for_commit (stage_now x r.commits.anchor w.s.reading) (some_piped set.course.pipelines x.in_flight suits next.some) (inr (inl refl));
        before = unmoved_now;
        own = tt;
        undecided = not_decided (some_is x.in_flight next.some);
      })

  -- a stage that was lost goes again, while it is not late
  module _ (m : Message) (out : StageIsOut k w.t x w.stages m) (to_send : is_to_send m ≡ true) where
    not_late : IsLate k.heard out.one → ⊥
    not_late = out.unlate to_send

    here : IsStageHere k.heard x.staging.staged w.t out.one
    here = All-contains (λ s. (IsLate k.heard s → ⊥) → IsStageHere k.heard x.staging.staged w.t s) w.stages out.one st.live out.kept not_late

    own : (out.one.meta.id ≡ w.t.id) × (out.one.meta.epoch ≡ w.t.epoch)
    own = own_each k.heard w.t w.stages x.staging.stages st.staging.kept out.one out.kept

    -- so it was not heard to stage there
    unstaged_here : is_just w.t.write_ts x.staging.staged ≡ false
    unstaged_here = by x.staging.staged st.staging.last_staged
      where
        by : (o : Option ℕ) → IfSome o (WasStagedAt k.heard w.t) → is_just w.t.write_ts o ≡ false
        by None was = refl
        by (Some at) was =
            ne_eqb at w.t.write_ts
            (λ same. out.unstaged (to_send_unanswered m.progress to_send) (subst (λ n. WasStagedAt k.heard w.t n) (same ∙ sym here.at_write_ts) was))

    stage_again : IsReady set session k m.request
    stage_again =
        subst (λ q. IsReady set session k q) (sym out.said) (record {
          row = inr (record {
            t = w.t;
            mine = subst (λ ts. Contains ts w.t) (sym w.open_in.first) (0, omega arith, refl);
            whose = own.0;
            epoch_now = own.1;
            before = (All-contains (WasStageSent k.sent w.t.id) w.stages out.one st.staging.sent out.kept).went_out;
            not_late = not_late;
          });
          stamps =
              let at : out.one.ts ≡ x.write_ts = here.at_write_ts ∙ sym (ap (λ x. x.write_ts) st.same) in
              All-cons (λ ts. ts ≤ k.top + 1) out.one.ts [] (let top = low in omega (arith, at, top)) (All-nil (λ ts. ts ≤ k.top + 1));
          kind = for_commit (stage_request out.one) r.piped (inr (inl refl));
          before = unmoved_now;
          own = tt;
          undecided = untold k w.stages None w.t x st (ap (λ b. (length x.in_flight == 0) && b) unstaged_here ∙ and_none (length x.in_flight == 0)) (open_is k w.t w.open_in);
        })

  one_of : (stage : List Message) → StageStands k w.s w.t x w.stages r.commits.anchor stage → All (IsReadyToSend set session k) stage
  one_of [] left = All-nil (IsReadyToSend set session k)
  one_of (m ∷ []) (inl next) = All-cons (IsReadyToSend set session k) m [] (λ to_send. stage_next m next) (All-nil (IsReadyToSend set session k))
  one_of (m ∷ []) (inr out) = All-cons (IsReadyToSend set session k) m [] (λ to_send. stage_again m out to_send) (All-nil (IsReadyToSend set session k))
  one_of (m ∷ other ∷ more) none = absurd none

  pub stage_ready : All (IsReadyToSend set session k) ms
  stage_ready =
      subst (λ ms. All (IsReadyToSend set session k) ms) (sym r.wave.whole)
      (All-append (IsReadyToSend set session k) r.wave.puts r.wave.stage (All-weaker (SendsAgain calls.Commit true k w.t x) (IsReadyToSend set session k) put_ready r.wave.puts r.wave.again)
      (one_of r.wave.stage r.wave.stands))
