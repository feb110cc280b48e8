-- Where writes are pipelined, a session's call stays in turn by each thing that it does.
use Rattle.std.proofs.Common.{◌≡◌, ◌≢◌, ℕ, Bool, true, false, ◌==◌, ◌⊎◌, inl, inr, List, [], ◌∷◌, ◌++◌, All, Any, Contains, Option, Some, None, cond, find, fold, map, refl, sym, ap, subst, ◌∙◌}
use Rattle.std.proofs.lemmas.Bool.{eq-eqb}
use Rattle.std.proofs.lemmas.List.Elements.{All-contains, All-weaker, Contains-append_left}
use Rattle.std.proofs.lemmas.List.Folds.{list_any_none}
use Rattle.std.specs.List.{list_any}
use Rattle.pc_base.specs.declared.limits.TheConstants.{MOST_CONFLICTS}
use Rattle.pc_base.specs.declared.transaction.TxnId.{TxnId}
use Rattle.pc_call.proofs.FoundBlocked.{met_head}
use Rattle.pc_call.proofs.StageLists.{met_changed}
use Rattle.pc_call.specs.declared.call.OpenCall.{OpenCall}
use Rattle.pc_call.specs.declared.purpose.Purpose.{Purpose}
use Rattle.pc_call.specs.declared.purpose.Purpose.TheVariants as purposes
use Rattle.pc_call.specs.Met.{AreMetBy}
use Rattle.pc_call.specs.Outbox.{IsApartFrom, has_put, has_waited}
use Rattle.pc_coord.specs.Aside.{LeavesNoneWaiting}
use Rattle.pc_call.specs.Serving.{AreReadsOf, InCall, IsOpenFor, Serves, write_call, GoesOutFirst}
use Rattle.pc_call.specs.Setting.{Setting}
use Rattle.pc_call.specs.Waiting.{BeginsBehindProofs}
use Rattle.pc_coord.specs.Coming.{ComesOf, IsBlockOf, goes_by_sequence}
use Rattle.pc_coord.specs.Coordination.{Coordination, setting_of}
use Rattle.pc_coord.specs.declared.due.Due.{Due}
use Rattle.pc_coord.specs.declared.due.Due.TheVariants as dues
use Rattle.pc_coord.specs.Knows.{HasCallDue, Knows, KnowsAt}
use Rattle.pc_follows.specs.FirstBlock.{TellsFirstBlock}
use Rattle.pc_follows.specs.NextBlock.{IsNextBlock}
use Rattle.pc_follows.specs.RoundOrder.{with_waiting}
use Rattle.pc_follows.specs.RoundsMade.{RoundCount, no_rounds, rounds_after, rounds_made}
use Rattle.pc_lists.proofs.Lists.{all_from_contains}
use Rattle.pc_proto.specs.declared.answer.Answer.{Answer}
use Rattle.pc_proto.specs.declared.answer.Answer.TheVariants as answers
use Rattle.pc_proto.specs.declared.call.Call.TheVariants as calls
use Rattle.pc_proto.specs.declared.reply.Reply.{Reply}
use Rattle.pc_proto.specs.declared.request.Request.{Request}
use Rattle.pc_proto.specs.Replies.{is_conflict}
use Rattle.pc_session.proofs.Again.{out_waits}
use Rattle.pc_session.proofs.InTurn.{asked_block, holder_is, met_as_far}
use Rattle.pc_session.proofs.CallKinds.{AsksSo, commit_meets_none, meets_none, never_meets, refresh_meets_none}
use Rattle.pc_session.proofs.Knowing.{with_heard, with_sent}
use Rattle.pc_session.proofs.PipedRounds.{leaves_rounds, push_heard, rounds_sent, waiting_heard}
use Rattle.pc_session.proofs.PipedWaves.{HasRoundFirst, IsOutBelow, apart_idle, apart_silent, apart_unmet, met_one_more, none_waits, order_before, order_silent, order_went, unmet_waits}
use Rattle.pc_session.proofs.Waiting.{has_own, wait_of}
use Rattle.pc_session.proofs.WaveTurns.{IsBlockedFirst, sent_none}
use Rattle.pc_session.specs.InTurn.{AreApart, HasRoundsPiped, HasRoundsWaiting, KeepsTurn, WaitsUnless}
use Rattle.pc_wave.proofs.Changed.{found_all, found_some}
use Rattle.pc_wave.proofs.Hearing.{came_request}
use Rattle.pc_wave.proofs.Lists.{at_least-fewer}
use Rattle.pc_wave.specs.Course.{Course}
use Rattle.pc_wave.specs.declared.message.Message.{Message}
use Rattle.pc_wave.specs.declared.message.Progress.{Progress}
use Rattle.pc_wave.specs.declared.message.Progress.TheVariants as progresses
use Rattle.pc_wave.specs.declared.step.Step.TheVariants as steps
use Rattle.pc_wave.specs.Messages.{awaits_at, back_with, back_with_by, first_changed, is_in_conflict, is_out, is_to_send, progress_awaits, progress_in_conflict, progress_out, progress_to_send, sent_under, step_of, wave_awaits}
use Rattle.pc_wave.specs.Standing.{IsAsFar, MessageStands, Pairwise}
use Rattle.pc_world.specs.Counting.{AtLeast}
use Rattle.pc_world.specs.Known.{Known, call_in, call_of, open_txn}
use Rattle.pc_world.specs.Known.Traffic.{Heard, Sent}
use Rattle.pc_world.specs.Known.Transactions.{Txn}
use Rattle.pc_world.specs.Tell.Refusal.{IsConflictOf}

pub waits_by : (b : Bool) (k : Known) (ms : List Message) → (b ≡ false → HasRoundsWaiting k ms) → WaitsUnless b k ms
waits_by true k ms waits = tt
waits_by false k ms waits = waits refl

pub waits_of : (b : Bool) (k : Known) (ms : List Message) → b ≡ false → WaitsUnless b k ms → HasRoundsWaiting k ms
waits_of true k ms isnt waits = absurd cc
waits_of false k ms isnt waits = waits

-- where none is in conflict, none waits
pub unmet_rounds : (k : Known) (ms : List Message) → (rounds_made k).push ≡ None → (rounds_made k).waiting ≡ [] → list_any is_in_conflict ms ≡ false → HasRoundsWaiting k ms
unmet_rounds k ms push waiting unmet = record { unpushed = push; met = subst (AreMetBy ms) (sym waiting) (none_waits ms unmet) }

-- where no reply is waited for, none is out
pub idle_of : (ms : List Message) → ((number : ℕ) → wave_awaits number ms ≡ false) → list_any is_out ms ≡ false
idle_of ms quiet = by (list_any is_out ms) refl
  where
    by : (b : Bool) → list_any is_out ms ≡ b → list_any is_out ms ≡ false
    by false is = is
    by true is = let f = out_waits ms is in let e : false ≡ true = sym (quiet f.0) ∙ f.1 in absurd cc

way_unmet : (p : Progress) → (progress_to_send p ≡ true) ⊎ (progress_out p ≡ true) → progress_in_conflict p ≡ false
way_unmet progresses.ToSend way = refl
way_unmet (progresses.Sent number) way = refl
way_unmet (progresses.Met number conflict) way = absurd (elim way [ inl is ↦ let e : false ≡ true = is in cc e | inr is ↦ let e : false ≡ true = is in cc e ])
way_unmet (progresses.Answered number reply) way = refl

-- messages that are to be sent or out are in no conflict
pub unmet_way : (ms : List Message) → All (λ m. (is_to_send m ≡ true) ⊎ (is_out m ≡ true)) ms → list_any is_in_conflict ms ≡ false
unmet_way ms way = list_any_none is_in_conflict ms (All-weaker (λ m. (is_to_send m ≡ true) ⊎ (is_out m ≡ true)) (λ m. is_in_conflict m ≡ false) (λ m is. way_unmet m.progress is) ms way)

-- ---- what is told

-- The first message in conflict met its eighth: its conflict is the next one, and blocks the call.
pub piped_block : (co : Course) (k : Known) (ms : List Message) (holder : TxnId) → HasRoundsWaiting k ms → All (MessageStands co k) ms → IsBlockedFirst ms holder → IsNextBlock k holder
piped_block co k ms holder waits stand b =
    let f = met_head ms (rounds_made k).waiting b.m waits.met b.found in
    let h = f.0 in
    let s : MessageStands co k b.m = All-found ms b.m b.found stand in
    let met = met_as_far co k b.m b.number b.conflict b.met s in
    let both : progresses.Met b.number b.conflict ≡ progresses.Met h.number h.reply = sym b.met ∙ f.3.progress in
    let told : h.reply ≡ b.conflict = cc in
    record {
      meta = met.holder;
      key = met.key;
      next = record { conflict = h; later = f.1; ts = met.ts; waits = f.2; met = told ∙ met.is };
      whose = holder_is b.conflict met.holder met.ts met.key holder met.is b.whose;
      why = inl (
        waits.unpushed,
        at_least-fewer (IsConflictOf h.request) MOST_CONFLICTS b.m.conflicts k.heard_now b.many (subst (λ r. AtLeast (IsConflictOf r) b.m.conflicts k.heard_now) f.3.asked s.counted.heard),
      );
    }
  where
    All-found : (ms : List Message) (m : Message) → find is_in_conflict ms ≡ Some m → All (MessageStands co k) ms → MessageStands co k m
    All-found ms m found all = found_all is_in_conflict (MessageStands co k) ms m found all

pub blocks_by : (k : Known) (answer : Answer) → ((holder : TxnId) → answer ≡ answers.Blocked holder → IsNextBlock k holder ⊎ TellsFirstBlock true k answer) → TellsFirstBlock true k answer
blocks_by k (answers.Blocked holder) blocks = elim (blocks holder refl) [ inl next ↦ inl next | inr told ↦ told ]
blocks_by k answer blocks = tt

-- what comes of messages blocks the call only where that is due of them
pub block_comes : (ms : List Message) (answer : Answer) (holder : TxnId) → ComesOf ms (dues.Tell answer) → answer ≡ answers.Blocked holder → step_of ms ≡ steps.Blocked holder
block_comes ms answer holder comes is = subst (IsBlockOf ms) is comes

-- ---- the calls of a commit

met_none : (co : Course) (k : Known) (r : Request) (conflicts : ℕ) (p : Progress) → k.heard_now ≡ [] → IsAsFar co k r conflicts p → progress_in_conflict p ≡ false
met_none co k r conflicts progresses.ToSend none far = refl
met_none co k r conflicts (progresses.Sent number) none far = refl
met_none co k r conflicts (progresses.Met number conflict) none far = absurd (let e : far.before ++ far.h ∷ far.later ≡ [] = sym far.whole ∙ none in isnt far.before far.h far.later e)
  where
    isnt : (xs : List Heard) (x : Heard) (ys : List Heard) → xs ++ x ∷ ys ≡ [] → ⊥
    isnt [] x ys e = cc
    isnt (y ∷ xs) x ys e = cc
met_none co k r conflicts (progresses.Answered number reply) none far = refl

unmet_now : (co : Course) (k : Known) (ms : List Message) → k.heard_now ≡ [] → All (MessageStands co k) ms → list_any is_in_conflict ms ≡ false
unmet_now co k ms none stand = list_any_none is_in_conflict ms (All-weaker (MessageStands co k) (λ m. is_in_conflict m ≡ false) (λ m s. met_none co k m.request m.conflicts m.progress none s.as_far) ms stand)

-- what can meet no intent is in no conflict
plain_met : (co : Course) (k : Known) (r : Request) (conflicts : ℕ) (p : Progress) → meets_none r ≡ true → IsAsFar co k r conflicts p → progress_in_conflict p ≡ false
plain_met co k r conflicts progresses.ToSend none far = refl
plain_met co k r conflicts (progresses.Sent number) none far = refl
plain_met co k r conflicts (progresses.Met number conflict) none far = absurd (never_meets r none conflict far.holder far.ts far.key far.is far.kind)
plain_met co k r conflicts (progresses.Answered number reply) none far = refl

pub unmet_plainly : (co : Course) (k : Known) (ms : List Message) → All (AsksSo meets_none) ms → All (MessageStands co k) ms → list_any is_in_conflict ms ≡ false
unmet_plainly co k ms none stand =
    list_any_none is_in_conflict ms (all_from_contains (λ m. is_in_conflict m ≡ false) ms (λ m there.
    plain_met co k m.request m.conflicts m.progress (All-contains (AsksSo meets_none) ms m none there) (All-contains (MessageStands co k) ms m stand there).as_far))

never_writes : (key : List ℕ) (value : Option (List ℕ)) → calls.Commit ≡ write_call key value → ⊥
never_writes key None e = cc
never_writes key (Some value) e = cc

module _ (c : Coordination) (k : Known) (call : OpenCall) (at : HasCallDue false c k call) where
  abbrev set : Setting
  set = setting_of false c

  abbrev w : InCall set k at.x call.purpose call.wave
  w = at.in_call

  -- a commit that goes on by no sequence has no round left
  pub commit_waits : goes_by_sequence call.purpose ≡ false → w.s.call ≡ calls.Commit → k.heard_now ≢ [] → HasRoundsWaiting k call.wave
  commit_waits isnt commits some = by call.purpose isnt w.serves
    where
      by : (p : Purpose) → goes_by_sequence p ≡ false → Serves set k w.s w.t at.x w.stages p call.wave → HasRoundsWaiting k call.wave
      by (purposes.Beat kept reading) isnt r = absurd (some r.unheard)
      by (purposes.Prove kept all) isnt r = absurd (subst BeginsBehindProofs (sym r.asked ∙ commits) r.begins)
      by purposes.Read isnt r = absurd (subst (λ call_is. AreReadsOf set.splits at.x call_is (map (λ (m : Message). m.request) call.wave)) commits r.asked)
      by purposes.Write isnt r = absurd (never_writes r.key r.value (sym commits ∙ r.call))
      by (purposes.Refresh n puts) isnt r = unmet_rounds k call.wave r.settled.push r.settled.waiting (unmet_plainly set.course k call.wave (refresh_meets_none set k w.s w.t at.x w.stages n puts call.wave r) w.wave.stand)
      by (purposes.Commit n) isnt r = unmet_rounds k call.wave r.settled.push r.settled.waiting (unmet_plainly set.course k call.wave (commit_meets_none set k w.s w.t at.x w.stages n call.wave r) w.wave.stand)
      by (purposes.Abort why) isnt r = absurd (let e : calls.Commit ≡ calls.Rollback = sym commits ∙ r.call in cc e)
      by (purposes.Stage n) isnt r = absurd cc
      by (purposes.Query n holder puts) isnt r = absurd cc
      by (purposes.LastBeat answer reading) isnt r = absurd cc

  -- while it stages, nothing waits in the outbox
  pub stage_none_later : (n : ℕ) → call.purpose ≡ purposes.Stage n → (number : ℕ) → has_waited number c.later ≡ false
  stage_none_later n is number = isnt (has_waited number c.later) refl
    where
      r : Serves set k w.s w.t at.x w.stages (purposes.Stage n) call.wave
      r = subst (λ p. Serves set k w.s w.t at.x w.stages p call.wave) is w.serves

      isnt : (b : Bool) → has_waited number c.later ≡ b → has_waited number c.later ≡ false
      isnt false none = none
      isnt true waits =
          let u = wait_of c k call at number waits in
          let f = u.stands.w in
          let some : Any (IsOpenFor f) r.wave.puts = All-contains (λ f. Any (IsOpenFor f) r.wave.puts) at.x.in_flight f r.wave.each u.stands.there in
          let m = some.1 in
          let there : Contains call.wave m = subst (λ ms. Contains ms m) (sym r.wave.whole) (Contains-append_left r.wave.puts r.wave.stage m (some.0, some.2, some.3)) in
          let sends = some.4.0 in
          let put : has_put f.seq u.put.request ≡ true = has_own at.x u.stands.anchor u.stands.ts f u.put.request u.stands.said in
          let none : has_put f.seq m.request ≡ false =
          All-contains (λ (q : Message). (seq : ℕ) → has_put seq u.put.request ≡ true → has_put seq q.request ≡ false) call.wave m (All-contains (IsApartFrom call.wave) c.later u.put at.aside.outbox.apart u.there) there f.seq put in
          let it : has_put f.seq m.request ≡ true = ap (has_put f.seq) sends.2 ∙ eq-eqb f.seq f.seq refl in
          absurd (let both : false ≡ true = sym none ∙ it in cc both)

-- ---- a call is asked

pub asked_piped : (c : Coordination) (k : Known) → Knows false c k → k.sent_now ≡ [] → k.heard_now ≡ [] → KeepsTurn true k c.due
asked_piped c k knows sent heard = by c.due knows.stands
  where
    f : Option Txn → List Heard → RoundCount
    f o hs = fold (rounds_after o) no_rounds hs

    by : (d : Due) → KnowsAt false c k d → KeepsTurn true k d
    by dues.Nothing at = tt
    by (dues.Call call) at =
        let unmet = unmet_now (setting_of false c).course k call.wave heard at.in_call.wave.stand in
        record {
          waits = waits_by (goes_by_sequence call.purpose) k call.wave (λ isnt. unmet_rounds k call.wave (ap (λ hs. (f (open_txn k) hs).push) heard) (ap (λ hs. (f (open_txn k) hs).waiting) heard) unmet);
          unrecovered = ap (λ hs. (f (open_txn k) hs).recovered) heard;
          order = order_before k call.wave (λ number waits. ap (list_any (λ (m : Sent). m.number == number)) sent);
          apart = apart_unmet call.wave unmet;
        }
    by (dues.Tell answer) at = asked_block c.splits c.session k at.may.may.s answer heard at.may.may.told true

-- ---- a message goes out

pub sent_piped : (k : Known) (call : OpenCall) (number range : ℕ) (request : Request) → HasRoundsPiped k call → list_any is_in_conflict call.wave ≡ false → All (IsOutBelow number) call.wave
    → HasRoundsPiped (with_sent number range request k) (record call { wave = first_changed is_to_send (sent_under number) call.wave })
sent_piped k call number range request t unmet below =
    let m : Sent = record { number = number; range = range; request = request } in
    let now = with_sent number range request k in
    let same = rounds_sent number range request k in
    let after : list_any is_in_conflict (first_changed is_to_send (sent_under number) call.wave) ≡ false = sent_none number call.wave unmet in
    record {
      waits = waits_by (goes_by_sequence call.purpose) now (first_changed is_to_send (sent_under number) call.wave) (λ isnt.
          let was = waits_of (goes_by_sequence call.purpose) k call.wave isnt t.waits in
          unmet_rounds now (first_changed is_to_send (sent_under number) call.wave) (ap (λ (r : RoundCount). r.push) same ∙ was.unpushed) (ap (λ (r : RoundCount). r.waiting) same ∙ unmet_waits call.wave (rounds_made k).waiting unmet was.met) after);
      unrecovered = ap (λ (r : RoundCount). r.recovered) same ∙ t.unrecovered;
      order = order_went k now m refl call.wave below t.order;
      apart = apart_unmet (first_changed is_to_send (sent_under number) call.wave) after;
    }

-- ---- a reply is heard

find_awaited : (number : ℕ) (ms : List Message) → wave_awaits number ms ≡ true → (m : Message) × (find (awaits_at number) ms ≡ Some m)
find_awaited number ms waits = found_some (awaits_at number) ms waits

-- the message that comes back was in no conflict
awaited_unmet : (number : ℕ) (p : Progress) → progress_awaits number p ≡ true → progress_in_conflict p ≡ false
awaited_unmet number progresses.ToSend is = absurd cc
awaited_unmet number (progresses.Sent sent) is = refl
awaited_unmet number (progresses.Met sent conflict) is = absurd cc
awaited_unmet number (progresses.Answered sent reply) is = absurd cc

back_unmet : (number : ℕ) (reply : Reply) (m : Message) → is_conflict reply ≡ false → is_in_conflict (back_with number reply m) ≡ false
back_unmet number reply m plain = ap (λ b. is_in_conflict (back_with_by b number reply m)) plain

back_met : (number : ℕ) (reply : Reply) (m : Message) → is_conflict reply ≡ true → (back_with number reply m).progress ≡ progresses.Met number reply
back_met number reply m is = ap (λ b. (back_with_by b number reply m).progress) is

module _ (k : Known) (h : Heard) (ms : List Message) (was : HasRoundsWaiting k ms) (leaves : leaves_rounds h.request ≡ true) (waits : wave_awaits h.number ms ≡ true) (asked : (m : Message) → find (awaits_at h.number) ms ≡ Some m → m.request ≡ h.request)
    (runs : is_conflict h.reply ≡ true → Pairwise HasRoundFirst ms) where
  -- the conflicts that wait then are those of the messages then
  pub came_piped : HasRoundsWaiting (with_heard h k) (first_changed (awaits_at h.number) (back_with h.number h.reply) ms)
  came_piped = record {
    unpushed = push_heard h k leaves ∙ was.unpushed;
    met = subst (AreMetBy (first_changed (awaits_at h.number) (back_with h.number h.reply) ms)) (sym (waiting_heard h k leaves)) (by (is_conflict h.reply) refl);
  }
    where
      free : (m : Message) → awaits_at h.number m ≡ true → is_in_conflict m ≡ false
      free m is = awaited_unmet h.number m.progress is

      by : (b : Bool) → is_conflict h.reply ≡ b → AreMetBy (first_changed (awaits_at h.number) (back_with h.number h.reply) ms) (cond (is_conflict h.reply) (with_waiting h (rounds_made k).waiting) (rounds_made k).waiting)
      by false plain =
          subst (λ b. AreMetBy (first_changed (awaits_at h.number) (back_with h.number h.reply) ms) (cond b (with_waiting h (rounds_made k).waiting) (rounds_made k).waiting)) (sym plain)
          (met_changed (awaits_at h.number) (back_with h.number h.reply) free (λ m. back_unmet h.number h.reply m plain) ms (rounds_made k).waiting was.met)
      by true is =
          let f = find_awaited h.number ms waits in
          let same = asked f.0 f.1 in
          subst (λ b. AreMetBy (first_changed (awaits_at h.number) (back_with h.number h.reply) ms) (cond b (with_waiting h (rounds_made k).waiting) (rounds_made k).waiting)) (sym is)
          (met_one_more (awaits_at h.number) (back_with h.number h.reply) free h f.0 same (record { progress = back_met h.number h.reply f.0 is; asked = came_request h.number h.reply f.0 ∙ same }) ms (rounds_made k).waiting f.1 (runs is) was.met)

-- What is known of the call's messages once its reply was heard: they go on, or what is waited for waited in the outbox.
module _ (c e : Coordination) (k now : Known) (old call : OpenCall) (at : HasCallDue false c k old) (knows : Knows false e now) (due : e.due ≡ dues.Call call) (ms : List Message)
    (comes : (call.wave ≡ ms) ⊎ ((n : ℕ) → wave_awaits n call.wave ≡ true → has_waited n c.later ≡ true)) (silent : All (λ m. is_to_send m ≡ false) ms)
    (goes : goes_by_sequence old.purpose ≡ false → ComesOf ms (dues.Call call)) (ends : (answer : Answer) (reading : ℕ) → old.purpose ≡ purposes.LastBeat answer reading → ⊥)
    (before : (number : ℕ) → has_waited number c.later ≡ true → list_any (λ (m : Sent). m.number == number) now.sent_now ≡ false) where
  idle_where : ((n : ℕ) → has_waited n c.later ≡ false) → (call.wave ≡ ms) ⊎ (list_any is_out call.wave ≡ false)
  idle_where none = elim comes [
    | inl same ↦ inl same
    | inr outbox ↦ inr (idle_of call.wave (λ n. by n (wave_awaits n call.wave) refl outbox))
  ]
    where
      by : (n : ℕ) (b : Bool) → wave_awaits n call.wave ≡ b → ((n : ℕ) → wave_awaits n call.wave ≡ true → has_waited n c.later ≡ true) → wave_awaits n call.wave ≡ false
      by n false is outbox = is
      by n true is outbox = let e : false ≡ true = sym (none n) ∙ outbox n is in absurd cc

  apart_same : (call.wave ≡ ms) ⊎ (list_any is_out call.wave ≡ false) → AreApart call.wave
  apart_same (inl same) = subst AreApart (sym same) (apart_silent ms silent)
  apart_same (inr idle) = apart_idle call.wave idle

  pub apart_then : AreApart call.wave
  apart_then = by old.purpose refl
    where
      plainly : goes_by_sequence old.purpose ≡ false → AreApart call.wave
      plainly isnt = elim (goes isnt) [ inl same ↦ subst AreApart (sym same) (apart_silent ms silent) | inr new ↦ apart_unmet call.wave (unmet_way call.wave new.0) ]

      by : (p : Purpose) → old.purpose ≡ p → AreApart call.wave
      by (purposes.Stage n) is = apart_same (idle_where (stage_none_later c k old at n is))
      by (purposes.Query n holder puts) is = apart_same (idle_where (λ n. ap (has_waited n) (subst (λ p. LeavesNoneWaiting p c.later) is at.aside.joined)))
      by (purposes.LastBeat answer reading) is = absurd (ends answer reading is)
      by (purposes.Beat kept reading) is = plainly (ap goes_by_sequence is)
      by (purposes.Prove kept all) is = plainly (ap goes_by_sequence is)
      by purposes.Read is = plainly (ap goes_by_sequence is)
      by purposes.Write is = plainly (ap goes_by_sequence is)
      by (purposes.Refresh n puts) is = plainly (ap goes_by_sequence is)
      by (purposes.Commit n) is = plainly (ap goes_by_sequence is)
      by (purposes.Abort why) is = plainly (ap goes_by_sequence is)

  pub order_then : Pairwise (GoesOutFirst now) call.wave
  order_then = elim comes [
    | inl same ↦ subst (Pairwise (GoesOutFirst now)) (sym same) (order_silent now ms silent)
    | inr outbox ↦ order_before now call.wave (λ number waits. before number (outbox number waits))
  ]

-- the conflicts that wait are those of the messages of a call that goes by no sequence
pub waits_then : (e : Coordination) (now : Known) (call : OpenCall) → HasCallDue false e now call → now.heard_now ≢ [] → (b : Bool) → (b ≡ true → call_of now ≡ Some calls.Commit) → (ms : List Message) → (b ≡ false → HasRoundsWaiting now ms) → (b ≡ false → ComesOf ms (dues.Call call))
    → goes_by_sequence call.purpose ≡ false → HasRoundsWaiting now call.wave
waits_then e now call at some true commits ms came goes isnt =
    let same : at.in_call.s.call ≡ calls.Commit = let f : Some at.in_call.s.call ≡ Some calls.Commit = sym (ap call_in at.in_call.opened) ∙ commits refl in cc in
    commit_waits e now call at isnt same some
waits_then e now call at some false commits ms came goes isnt =
    let was = came refl in
    elim (goes refl) [
      | inl same ↦ subst (HasRoundsWaiting now) (sym same) was
      | inr new ↦ unmet_rounds now call.wave was.unpushed (unmet_waits ms (rounds_made now).waiting new.1 was.met) (unmet_way call.wave new.0)
    ]
