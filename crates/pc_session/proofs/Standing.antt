-- A session rests where it begins, and rests or has stopped after what it does.
use Rattle.std.proofs.Common.{◌≡◌, ℕ, Bool, true, false, ◌==◌, All, List, [], ◌≤◌, is_some, refl, sym, ap, subst, ◌∙◌, Contains}
use Rattle.std.proofs.lemmas.List.Elements.{All-nil}
use Rattle.pc_base.specs.declared.actor.ActorId.TheVariants as actors
use Rattle.std.specs.List.{list_any}
use Rattle.pc_call.specs.Outbox.{has_waited}
use Rattle.pc_coord.specs.Coordination.{Coordination, new_coordination}
use Rattle.pc_coord.specs.Knows.{Knows}
use Rattle.pc_desk.specs.Desk.{DeskMeaning, KeepsTrack, Posted}
use Rattle.pc_exchange.specs.Jobs.{IsFinishable}
use Rattle.pc_follows.specs.WaveOrder.{IsHeardOrPut}
use Rattle.pc_history.specs.declared.view.Known.{Known as KnownEntry}
use Rattle.pc_history.specs.declared.view.Part.{Part}
use Rattle.pc_history.specs.Parts.{newcomer, told}
use Rattle.pc_proto.specs.declared.event.Event.{Event}
use Rattle.pc_session.specs.Session.{AreOfOneSession, HasLeft, IsAtRest, RestsOrStopped, SessionMeaning, waits_aside}
use Rattle.pc_world.specs.Known.{Known, known_of, nothing_known}
use Rattle.pc_world.specs.Known.Transactions.{Txn}
use Rattle.pc_lists.proofs.Lists.{contains_nil}
use Rattle.pc_session.specs.Behind.{WaitsBehindHeard}

-- before its first call
pub begun_rests : {C : Type 0} (s : SessionMeaning C) (session tries : ℕ) (pipelining : Bool) → s.desk.log.part ≡ newcomer (actors.Session session) → KeepsTrack s.desk → s.coordinator ≡ new_coordination session tries pipelining s.desk.log.head.splits
    → Knows false s.coordinator nothing_known → s.desk.log.pipelining ≡ pipelining → s.desk.posted ≡ [] → s.desk.replies ≡ [] → s.desk.later ≡ [] → s.jobs ≡ [] → IsAtRest s
begun_rests s session tries pipelining fresh track made knows piped posted replies later jobs =
    let own : s.desk.log.part.own ≡ [] = ap (λ (p : Part Event). p.own) fresh in
    let known : known_of s.desk.log.part.own ≡ nothing_known = ap known_of own in
    record {
      track = track;
      one = record {
        whose = ap (λ (p : Part Event). p.id) fresh ∙ ap (λ n. actors.Session n) (sym (ap (λ (c : Coordination). c.session) made));
        splits = ap (λ (c : Coordination). c.splits) made;
        piped = piped ∙ sym (ap (λ (c : Coordination). c.pipelining) made);
        knows = subst (Knows false s.coordinator) (sym known) knows;
      };
      posted = posted;
      replies = replies;
      heard = subst (λ (k : Known). All (IsHeardOrPut k.heard) k.sent) (sym known) (All-nil (IsHeardOrPut []));
      aside = λ number. ap (list_any (λ (m : Posted). m.number == number)) later ∙ sym (ap (λ (c : Coordination). has_waited number c.later) made);
      closed = ap (λ (k : Known). k.statement) known;
      handed = ap (λ (c : Coordination). c.job) made;
      holds = ap (λ (c : Coordination). is_some c.txn) made ∙ sym (ap (λ (k : Known). k.is_open) known);
      waiting = subst (λ js. HasLeft s.desk.log.part.own js) (sym jobs) (subst (λ own. HasLeft own []) (sym own)
          (record { left = refl; numbers = All-nil (λ (t : Txn). t.id.number ≤ 0); each = All-nil (IsFinishable nothing_known) }));
      behind = λ number request waits said g there. absurd (contains_nil g (subst (λ (k : Known). Contains k.heard g) known there));
    }

-- once a mark was taken
pub followed_rests : {C : Type 0} (old new : SessionMeaning C) (note : List (KnownEntry Event)) → new ≡ record old { desk = new.desk } → new.desk ≡ record old.desk { log = record old.desk.log { part = told note old.desk.log.part } } → (KeepsTrack old.desk → KeepsTrack new.desk)
    → RestsOrStopped old → RestsOrStopped new
followed_rests {C} old new note same took track rests = λ going.
    let own : new.desk.log.part.own ≡ old.desk.log.part.own = ap (λ (d : DeskMeaning C). d.log.part.own) took in
    let c : new.coordinator ≡ old.coordinator = ap (λ (s : SessionMeaning C). s.coordinator) same in
    let jobs : new.jobs ≡ old.jobs = ap (λ (s : SessionMeaning C). s.jobs) same in
    let rest = rests (sym (ap (λ (d : DeskMeaning C). d.log.stopped) took) ∙ going) in
    record {
      track = track rest.track;
      one = subst (λ x. AreOfOneSession new.desk x) (sym c) (record {
        whose = ap (λ (d : DeskMeaning C). d.log.part.id) took ∙ rest.one.whose;
        splits = rest.one.splits ∙ sym (ap (λ (d : DeskMeaning C). d.log.head.splits) took);
        piped = ap (λ (d : DeskMeaning C). d.log.pipelining) took ∙ rest.one.piped;
        knows = subst (λ own. Knows false old.coordinator (known_of own)) (sym own) rest.one.knows;
      });
      posted = ap (λ (d : DeskMeaning C). d.posted) took ∙ rest.posted;
      replies = ap (λ (d : DeskMeaning C). d.replies) took ∙ rest.replies;
      heard = subst (λ own. All (IsHeardOrPut (known_of own).heard) (known_of own).sent) (sym own) rest.heard;
      aside = λ number. ap (λ (d : DeskMeaning C). waits_aside number d) took ∙ (rest.aside number ∙ sym (ap (λ (x : Coordination). has_waited number x.later) c));
      closed = ap (λ own. (known_of own).statement) own ∙ rest.closed;
      handed = ap (λ (x : Coordination). x.job) c ∙ rest.handed;
      holds = ap (λ (x : Coordination). is_some x.txn) c ∙ (rest.holds ∙ sym (ap (λ own. (known_of own).is_open) own));
      waiting = subst (λ js. HasLeft new.desk.log.part.own js) (sym jobs) (subst (λ own. HasLeft own old.jobs) (sym own) rest.waiting);
      behind = subst (λ own. WaitsBehindHeard (λ number. has_waited number new.coordinator.later ≡ true) own) (sym own) (subst (λ (x : Coordination). WaitsBehindHeard (λ number. has_waited number x.later ≡ true) old.desk.log.part.own) (sym c) rest.behind);
    }
