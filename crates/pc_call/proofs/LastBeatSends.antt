-- The last heartbeat of a commit that gives up goes out.
use Rattle.std.proofs.Common.{◌≡◌, ℕ, true, false, ◌||◌, ◌⊎◌, inl, inr, List, [], ◌∷◌, None, refl, sym, ap, ◌∙◌, subst, arith, All, IsTrue}
use Rattle.std.proofs.lemmas.Bool.{eq-eqb}
use Rattle.std.proofs.lemmas.List.{append-nil}
use Rattle.std.proofs.lemmas.List.Elements.{All-push, All-weaker}
use Rattle.pc_call.proofs.Beating.{not_nil}
use Rattle.pc_call.proofs.Steps.{gone_out, numbered_now, one_message, one_sent}
use Rattle.pc_call.proofs.WhySent.{why_sent}
use Rattle.pc_call.specs.declared.purpose.Purpose.{Purpose}
use Rattle.pc_call.specs.declared.purpose.Purpose.TheVariants as purposes
use Rattle.pc_call.specs.Learned.{known_sent}
use Rattle.pc_call.specs.Opening.{after_send}
use Rattle.pc_call.specs.Serving.{InCall, KeepsStages, Serves, ServesLastBeat, out_of}
use Rattle.pc_call.specs.Setting.{Setting}
use Rattle.pc_follows.specs.Heartbeats.{FindsAborted, is_heartbeat}
use Rattle.pc_lists.proofs.Anywhere.{any_kept, any_weaker}
use Rattle.pc_proto.specs.declared.answer.Answer.{Answer}
use Rattle.pc_proto.specs.declared.request.Request.{Request}
use Rattle.pc_txn.proofs.Alive.{beat_sent}
use Rattle.pc_txn.specs.Counted.{IsCounted}
use Rattle.pc_txn.specs.declared.txn.OpenTxn.{OpenTxn}
use Rattle.pc_txn.specs.Silence.{own_beat, shown_at}
use Rattle.pc_txn.specs.Standing.{HasMovedOn, TxnStands}
use Rattle.pc_wave.specs.declared.message.Message.{Message}
use Rattle.pc_wave.specs.declared.message.Progress.{Progress}
use Rattle.pc_wave.specs.declared.message.Progress.TheVariants as progresses
use Rattle.pc_wave.specs.declared.step.Step.TheVariants as steps
use Rattle.pc_wave.specs.Messages.{first_changed, is_to_send, progress_awaits, progress_to_send, sent_under, step_of, wave_awaits}
use Rattle.pc_world.specs.Known.{Known, next_number}
use Rattle.pc_world.specs.Known.Traffic.{Sent}
use Rattle.pc_world.specs.Known.Transactions.{Txn, txn_sent}
use Rattle.pc_world.specs.StageFate.{IsDead, IsLate, IsStageWith}
use Rattle.pc_world.specs.Tell.Refusal.{is_heard}

to_send_waits_not : (number : ℕ) (m : Message) → is_to_send m ≡ true → wave_awaits number (m ∷ []) ≡ true → ⊥
to_send_waits_not number m to_send awaits = by m.progress to_send awaits
  where
    by : (p : Progress) → progress_to_send p ≡ true → (progress_awaits number p || false) ≡ true → ⊥
    by progresses.ToSend is waits = cc
    by p is waits = absurd cc

module _ (session clock count : ℕ) (set : Setting) (k : Known) (x : OpenTxn) (p : Purpose) (ms : List Message) (counted : IsCounted session clock count k) (w : InCall set k x p ms)
    (request : Request) (due : step_of ms ≡ steps.Send request) (number : ℕ) (next : number ≡ next_number k) (range : ℕ) (answer : Answer) (reading : ℕ) (is : p ≡ purposes.LastBeat answer reading) where
  abbrev m2 : Sent
  m2 = record { number = number; range = range; request = request }

  abbrev k2 : Known
  k2 = known_sent number range request k

  abbrev ms2 : List Message
  ms2 = first_changed is_to_send (sent_under number) ms

  abbrev t2 : Txn
  t2 = txn_sent request w.t

  abbrev x2 : OpenTxn
  x2 = shown_at reading x

  abbrev r : ServesLastBeat set.course.loses answer reading k w.s w.t x w.stages ms
  r = subst (λ q. Serves set k w.s w.t x w.stages q ms) is w.serves

  -- The message is to be sent, and is this request.
  o : (r.m.request ≡ request) × (is_to_send r.m ≡ true)
  o = one_message session clock count set k x p ms counted w request due number next range r.m r.one

  said : request ≡ own_beat x reading r.gives_up.anchor
  said = sym o.0 ∙ r.said

  gone2 : HasMovedOn k k2 (record { number = number; range = range; request = own_beat x reading r.gives_up.anchor } ∷ []) []
  gone2 = subst (λ q. HasMovedOn k k2 (record { number = number; range = range; request = q } ∷ []) []) said (record { sent = refl; heard = sym (append-nil k.heard); begun = omega arith; high = omega arith })

  st2 : TxnStands k2 w.stages None t2 x2
  st2 =
      subst (λ q. TxnStands k2 w.stages None (txn_sent q w.t) x2) (sym said)
      (beat_sent k k2 w.stages None w.t x r.gives_up.anchor reading number range r.gives_up.stands gone2)

  heard_or_waits : (m : Sent) → IsTrue (is_heartbeat m.request) → IsTrue (is_heard k.heard m) ⊎ (wave_awaits m.number ms ≡ true) → IsTrue (is_heard k.heard m) ⊎ (wave_awaits m.number ms2 ≡ true)
  heard_or_waits m beat (inl heard) = inl heard
  heard_or_waits m beat (inr awaits) = absurd (to_send_waits_not m.number r.m o.1 (subst (λ ms. wave_awaits m.number ms ≡ true) r.one awaits))

  ms2_is : ms2 ≡ sent_under number r.m ∷ []
  ms2_is = ap (first_changed is_to_send (sent_under number)) r.one ∙ one_sent number r.m o.1

  new_waits : wave_awaits number ms2 ≡ true
  new_waits = ap (wave_awaits number) ms2_is ∙ ap (λ b. b || false) (eq-eqb number number refl)

  pub last_beat_sends : InCall set k2 (after_send (purposes.LastBeat answer reading) ms x) p ms2
  last_beat_sends =
      gone_out session clock count set k x p ms counted w request due number next range w.stages x2 (subst (λ q. TxnStands k2 w.stages (out_of q ms2) t2 x2) (sym is) st2)
      (subst (λ q. KeepsStages q k2 w.stages) (sym is) r.gives_up.late) w.cause (λ r left. left) w.plain
      (subst (λ q. Serves set k2 w.s t2 x2 w.stages q ms2) (sym is) (record {
        gives_up = record {
          call = r.gives_up.call;
          anchor = r.gives_up.anchor;
          anchored = ap (λ q. (txn_sent q w.t).anchor) said ∙ r.gives_up.anchored;
          stands = st2;
          late = r.gives_up.late;
          why = why_sent k w.t w.open_in number range request (omega (arith, next)) (numbered_now session clock count set k x p ms counted w request due number next range) answer r.gives_up.why;
        };
        read_now = r.read_now;
        some = r.some;
        doubt = any_kept (λ (m : Sent). IsStageWith w.t.id (λ s. IsLate k.heard s × (IsDead k.heard s → ⊥)) m.request) k.sent (m2 ∷ []) r.doubt;
        m = sent_under number r.m;
        one = ms2_is;
        said = r.said;
        met = r.met;
        first = λ quiet ready. absurd cc;
        beaten = λ quiet. record {
          none_due = λ d. not_nil k.sent_now m2 [] d.first;
          heard =
              All-push (λ m. IsTrue (is_heartbeat m.request) → IsTrue (is_heard k.heard m) ⊎ (wave_awaits m.number ms2 ≡ true)) k.sent_now m2
              (All-weaker (λ m. IsTrue (is_heartbeat m.request) → IsTrue (is_heard k.heard m) ⊎ (wave_awaits m.number ms ≡ true)) (λ m. IsTrue (is_heartbeat m.request) → IsTrue (is_heard k.heard m) ⊎ (wave_awaits m.number ms2 ≡ true)) (λ m was beat. heard_or_waits m beat (was beat)) k.sent_now (r.beaten quiet).heard) (λ beat. inr new_waits);
          alive = λ why found. (r.beaten quiet).alive why (any_weaker (FindsAborted t2 why) (FindsAborted w.t why) (λ h f. record { beat = f.beat; aborted = f.aborted }) k.heard_now found);
        };
      }))
