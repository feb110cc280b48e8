-- Where writes are pipelined, nothing goes out or comes behind the call's own new write.
use Rattle.std.proofs.Common.{◌≡◌, ℕ, true, false, ◌&&◌, inl, inr, All, Any, List, map, Option, None, Some, refl, sym, ap, subst, ◌∙◌}
use Rattle.std.proofs.lemmas.List.Elements.{All-contains}
use Rattle.std.proofs.lemmas.Option.{same_Some}
use Rattle.pc_base.specs.Span.{same_key}
use Rattle.pc_call.proofs.Facts.{open_is}
use Rattle.pc_call.specs.declared.call.OpenCall.{OpenCall}
use Rattle.pc_call.specs.declared.purpose.Purpose.{Purpose}
use Rattle.pc_call.specs.declared.purpose.Purpose.TheVariants as purposes
use Rattle.pc_call.specs.Serving.{AreReadsOf, InCall, LaysLast, Serves, write_call}
use Rattle.pc_coord.specs.Aside.{IsFreeToLay}
use Rattle.pc_coord.specs.Coordination.{Coordination, is_writing, setting_of}
use Rattle.pc_coord.specs.Knows.{HasCallDue}
use Rattle.pc_flight.specs.declared.write.WriteInFlight.{WriteInFlight}
use Rattle.pc_follows.specs.Heartbeats.{is_heartbeat}
use Rattle.pc_follows.specs.Proving.{HasSentOwn}
use Rattle.pc_lists.proofs.Same.{same_key-self}
use Rattle.pc_proto.specs.declared.call.Call.{Call}
use Rattle.pc_proto.specs.declared.call.Call.TheVariants as calls
use Rattle.pc_proto.specs.declared.request.Request.{Request}
use Rattle.pc_proto.specs.declared.request.Request.TheVariants as requests
use Rattle.pc_txn.specs.Silence.{own_beat}
use Rattle.pc_wave.specs.declared.message.Message.{Message}
use Rattle.pc_world.specs.Known.{Known, call_in}
use Rattle.pc_world.specs.Known.Traffic.{Sent}
use Rattle.pc_world.specs.Send.Put.{AsksFor}
use Rattle.pc_world.specs.Tell.Data.{IsFirstPut, IsPutFor}

-- The call puts no write.
abbrev PutsNone : Call → Type 0
PutsNone asked = (key : List ℕ) (value : Option (List ℕ)) → AsksFor (Some asked) key value → ⊥

commit_none : (asked : Call) → asked ≡ calls.Commit → PutsNone asked
commit_none asked is key None asks = let e : Some calls.Commit ≡ Some (calls.Delete key) = sym (ap Some is) ∙ asks in cc e
commit_none asked is key (Some value) asks = let e : Some calls.Commit ≡ Some (calls.Put key value) = sym (ap Some is) ∙ asks in cc e

rollback_none : (asked : Call) → asked ≡ calls.Rollback → PutsNone asked
rollback_none asked is key None asks = let e : Some calls.Rollback ≡ Some (calls.Delete key) = sym (ap Some is) ∙ asks in cc e
rollback_none asked is key (Some value) asks = let e : Some calls.Rollback ≡ Some (calls.Put key value) = sym (ap Some is) ∙ asks in cc e

module _ (c : Coordination) (k : Known) (call : OpenCall) (at : HasCallDue false c k call) (piped : c.pipelining ≡ true) where
  abbrev w : InCall (setting_of false c) k at.x call.purpose call.wave
  w = at.in_call

  reads_none : (asked : Call) → AreReadsOf c.splits at.x asked (map (λ m. m.request) call.wave) → PutsNone asked
  reads_none (calls.Get own) r key None asks = let e : Some (calls.Get own) ≡ Some (calls.Delete key) = asks in cc e
  reads_none (calls.Get own) r key (Some value) asks = let e : Some (calls.Get own) ≡ Some (calls.Put key value) = asks in cc e
  reads_none (calls.Scan span) r key None asks = let e : Some (calls.Scan span) ≡ Some (calls.Delete key) = asks in cc e
  reads_none (calls.Scan span) r key (Some value) asks = let e : Some (calls.Scan span) ≡ Some (calls.Put key value) = asks in cc e
  reads_none asked r key value asks = absurd r

  none_asked : PutsNone w.s.call → Any (IsFirstPut k w.s w.t) k.sent_now → ⊥
  none_asked none any = none any.4.key any.4.value any.4.asked

  none_new : All (λ m. IsFirstPut k w.s w.t m → ⊥) k.sent_now → Any (IsFirstPut k w.s w.t) k.sent_now → ⊥
  none_new none any = All-contains (λ m. IsFirstPut k w.s w.t m → ⊥) k.sent_now any.1 none (any.0, any.2, any.3) any.4

  beat_puts : (key : List ℕ) (value : Option (List ℕ)) (seq : ℕ) (r : Request) → is_heartbeat r ≡ true → IsPutFor w.t key value seq r → ⊥
  beat_puts key value seq (requests.Put meta own ts at what) is put = let e : false ≡ true = is in cc e
  beat_puts key value seq r is put = put

  -- a put that is told at once has not gone out
  never_lays_last : call.purpose ≡ purposes.Write → (key : List ℕ) (value : Option (List ℕ)) (m : Message) → w.s.call ≡ write_call key value → LaysLast k w.t at.x key value m → ⊥
  never_lays_last is key value m asked lays =
      let b : (c.pipelining && is_writing call.purpose) ≡ true = ap (λ b. b && is_writing call.purpose) piped ∙ ap is_writing is in
      let free : IsFreeToLay true k at.x = subst (λ b. IsFreeToLay b k at.x) b at.aside.free in
      let none : same_key lays.w.key key ≡ false =
      All-contains (λ (f : WriteInFlight). same_key f.key key ≡ false) at.x.in_flight lays.w (free key value (ap call_in w.opened ∙ ap Some asked)) lays.there in
      let yes : same_key lays.w.key key ≡ true = ap (λ own. same_key own key) lays.place ∙ same_key-self key in
      let e : false ≡ true = sym none ∙ yes in
      cc e

  none_here : Any (IsFirstPut k w.s w.t) k.sent_now → ⊥
  none_here any = by call.purpose refl w.serves
    where
      by : (p : Purpose) → call.purpose ≡ p → Serves (setting_of false c) k w.s w.t at.x w.stages p call.wave → ⊥
      by (purposes.Beat kept reading) is r =
          beat_puts any.4.key any.4.value any.4.seq any.1.request
          (ap is_heartbeat (All-contains (λ (m : Sent). m.request ≡ own_beat at.x reading r.anchor) k.sent_now any.1 r.sent (any.0, any.2, any.3))) any.4.put
      by (purposes.Prove kept all) is r = none_new r.new any
      by purposes.Read is r = none_asked (reads_none w.s.call r.asked) any
      by purposes.Write is r = elim r.lays [ inl next ↦ none_new next.new any | inr last ↦ never_lays_last is r.key r.value r.m r.call last ]
      by (purposes.Refresh n puts) is r = none_asked (commit_none w.s.call r.commits.call) any
      by (purposes.Stage n) is r = none_asked (commit_none w.s.call r.commits.call) any
      by (purposes.Query n holder puts) is r = none_asked (commit_none w.s.call r.commits.call) any
      by (purposes.Commit n) is r = none_asked (commit_none w.s.call r.commits.call) any
      by (purposes.LastBeat answer reading) is r = none_asked (commit_none w.s.call r.gives_up.call) any
      by (purposes.Abort why) is r = none_asked (rollback_none w.s.call r.call) any

  -- while the call goes on its own write was not sent
  pub no_own : HasSentOwn k → ⊥
  no_own own =
      let s_is : own.0 ≡ w.s = same_Some own.0 w.s (sym own.2 ∙ w.opened) in
      let t_is : own.1 ≡ w.t = same_Some own.1 w.t (sym own.3 ∙ open_is k w.t w.open_in) in
      none_here (subst (λ s. Any (IsFirstPut k s w.t) k.sent_now) s_is (subst (λ t. Any (IsFirstPut k own.0 t) k.sent_now) t_is own.4))
