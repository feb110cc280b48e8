-- A session in its call once the round of a conflict was made beside its coordinator.
use Rattle.std.proofs.Common.{◌≡◌, ℕ, ◌+◌, ◌≤◌, max, true, false, ◌==◌, All, Contains, ◌++◌, count_by, Option, Some, refl, sym, ap, subst, ◌∙◌, arith, Bool, ◌&&◌, ◌||◌, not, inl, inr, IsTrue}
use Rattle.std.proofs.lemmas.Bool.{eq-eqb}
use Rattle.std.proofs.lemmas.List.{append_assoc}
use Rattle.std.proofs.lemmas.List.Elements.{All-append, All-weaker, Contains-append_right, All-contains}
use Rattle.std.specs.List.{list_any}
use Rattle.pc_base.specs.declared.actor.ActorId.TheVariants as actors
use Rattle.pc_call.specs.Sending.{IsConflictNow}
use Rattle.pc_coord.specs.Beside.{IsLaterBeside}
use Rattle.pc_coord.specs.Coming.{ComesOfRound, goes_by_sequence}
use Rattle.pc_coord.specs.Coordination.{Coordination, awaits_number, next_of, opened_by, with_clock, setting_of}
use Rattle.pc_coord.specs.declared.due.Opened.{Opened}
use Rattle.pc_coord.specs.declared.due.Due.TheVariants as dues
use Rattle.pc_coord.specs.declared.next.Next.TheVariants as nexts
use Rattle.pc_proto.specs.declared.answer.Answer.TheVariants as answers
use Rattle.pc_coord.specs.declared.pusher.Pusher.{Pusher}
use Rattle.pc_coord.specs.declared.round.Round.{Round}
use Rattle.pc_coord.specs.Knows.{Knows}
use Rattle.pc_coord.specs.Pusher.{IsPusherOf}
use Rattle.pc_coord.specs.Rounds.{EndsRound}
use Rattle.pc_desk.proofs.Counting.{counts_any, none_counted, said_more, said_once}
use Rattle.pc_desk.specs.Desk.{DeskMeaning, KeepsTrack, is_on_way, times_sent, Posted}
use Rattle.pc_exchange.specs.Aside.{IsLaterAside, MayGoOnBeside}
use Rattle.pc_exchange.specs.Jobs.{IsFinishable}
use Rattle.pc_exchange.specs.Rounds.{HasMadeRoundOf, MayMakeRound, MayGoInCall, course_of}
use Rattle.pc_lists.proofs.Counts.{count-append}
use Rattle.pc_lists.proofs.Lists.{all_from_contains}
use Rattle.pc_proto.specs.declared.reply.Reply.{Reply}
use Rattle.pc_session.proofs.Again.{quiet_goes}
use Rattle.pc_session.proofs.Away.{any_there, front_none, none_answered, none_away, none_posted, all_heard, all_heard_now}
use Rattle.pc_session.proofs.Due.{quiet_met}
use Rattle.pc_session.proofs.InTurn.{AreHeardOnce, heard_once}
use Rattle.pc_session.proofs.Inside.{one_on}
use Rattle.pc_session.proofs.TurnsOn.{next_round, IsOpenedAs, rounds_of, step_rounds}
use Rattle.pc_session.specs.InCall.{HasGoneInside, HasOpenCall, IsApartNow, IsBetweenWaves, IsHeardOrAway, IsOfOpenEpoch, IsWaitedFor}
use Rattle.pc_session.specs.Session.{HasLeft, SessionMeaning, session_knows, waits_aside}
use Rattle.pc_wave.specs.declared.step.Step.TheVariants as steps
use Rattle.pc_wave.specs.Messages.{step_of}
use Rattle.pc_world.specs.Known.{Known, known_of, reading_in, call_in}
use Rattle.pc_world.specs.Known.Traffic.{Heard, Sent, request_sent}
use Rattle.pc_world.specs.Known.Transactions.{Txn}
use Rattle.pc_world.specs.Tell.Refusal.{is_heard}
use Rattle.std.proofs.lemmas.List.Folds.{list_any-append}
use Rattle.std.proofs.lemmas.Option.{same_Some}
use Rattle.pc_call.proofs.Beating.{heard_longer, no_last_beat, undecided_not_aborted}
use Rattle.pc_call.proofs.Facts.{open_is}
use Rattle.pc_call.specs.Outbox.{has_waited}
use Rattle.pc_exchange.proofs.Free.{free_still}
use Rattle.pc_exchange.proofs.Waves.{ends_where_heard, puts_where_heard}
use Rattle.pc_exchange.specs.InTurn.{IsNextRoundIn}
use Rattle.pc_follows.specs.EarlyTell.{IsCommitDecided}
use Rattle.pc_follows.specs.WaveOrder.{IsHeardOrPut}
use Rattle.pc_session.proofs.AsideInCall.{aside_why, aside_low, epoch_aside}
use Rattle.pc_session.proofs.BothTurns.{round_turn}
use Rattle.pc_session.proofs.NextRound.{first_waiting}
use Rattle.pc_session.proofs.OwnWrites.{no_own}
use Rattle.pc_session.proofs.Wanted.{awaited_met}
use Rattle.pc_session.specs.InTurn.{KeepsTurn}
use Rattle.pc_world.specs.Local.{is_outside}
use Rattle.pc_lists.proofs.Anywhere.{any_of}
use Rattle.pc_txn.specs.Standing.{IsUndecidedOf}
use Rattle.pc_world.specs.Views.{ShowsAborted, WasAborted}
use Rattle.pc_session.proofs.Stepping.{numbers_aside}
use Rattle.pc_proto.specs.declared.request.Request.{Request}
use Rattle.pc_proto.specs.Requests.{is_put}
use Rattle.pc_session.proofs.KeepsBehind.{behind_aside}
use Rattle.pc_session.proofs.Waiting.{wait_of, wait_said}
use Rattle.pc_session.specs.Behind.{WaitsBehindHeard}

module _ {C : Type 0} (old d : DeskMeaning C) (track : KeepsTrack old) (after : KeepsTrack d) (session ts : ℕ) (aside : IsLaterAside session (known_of old.log.part.own) (known_of d.log.part.own) ts) where
  abbrev k : Known
  k = known_of old.log.part.own

  abbrev now : Known
  now = known_of d.log.part.own

  -- no reply was heard before to what was sent since
  unheard : (m : Sent) → Contains aside.sent_more m → list_any (λ (h : Heard). h.number == m.number) k.heard ≡ false
  unheard m there =
      let later = counts_any (λ (x : Sent). x.number == m.number) aside.sent_more (any_there (λ (x : Sent). x.number == m.number) aside.sent_more m (eq-eqb m.number m.number refl) there) in
      let whole : times_sent m.number now ≡ count_by (λ (x : Sent). x.number == m.number) k.sent + count_by (λ (x : Sent). x.number == m.number) aside.sent_more =
      ap (count_by (λ (x : Sent). x.number == m.number)) aside.sent ∙ count-append (λ (x : Sent). x.number == m.number) k.sent aside.sent_more in
      let once = after.once m.number in
      let stages = track.stages m.number in
      none_counted (λ (h : Heard). h.number == m.number) k.heard (omega arith)

  pub apart_aside : IsApartNow k → IsApartNow now
  apart_aside a = record {
    before = a.before;
    split = aside.heard ∙ (ap (λ hs. hs ++ aside.heard_more) a.split ∙ (append_assoc a.before k.heard_now aside.heard_more ∙ ap (λ hs. a.before ++ hs) (sym aside.heard_now)));
    apart = subst (All (λ (m : Sent). is_heard a.before m ≡ false)) (sym aside.sent_now)
        (All-append (λ (m : Sent). is_heard a.before m ≡ false) k.sent_now aside.sent_more a.apart
        (all_from_contains (λ (m : Sent). is_heard a.before m ≡ false) aside.sent_more (λ m there. front_none a.before k.heard_now m.number (ap (list_any (λ (h : Heard). h.number == m.number)) (sym a.split) ∙ unheard m there))));
    said = subst (All (λ (m : Sent). request_sent m.number now.sent ≡ Some m.request)) (sym aside.sent_now)
        (All-append (λ (m : Sent). request_sent m.number now.sent ≡ Some m.request) k.sent_now aside.sent_more
        (All-weaker (λ (m : Sent). request_sent m.number k.sent ≡ Some m.request) (λ (m : Sent). request_sent m.number now.sent ≡ Some m.request) (λ m said. ap (request_sent m.number) aside.sent ∙ said_more m.number k.sent aside.sent_more m.request said) k.sent_now a.said)
        (all_from_contains (λ (m : Sent). request_sent m.number now.sent ≡ Some m.request) aside.sent_more (λ m there.
        said_once now.sent m (subst (λ xs. Contains xs m) (sym aside.sent) (Contains-append_right k.sent aside.sent_more m there)) (after.once m.number))));
  }

module _ {C : Type 0} (old : SessionMeaning C) (reading number : ℕ) (conflict : Reply) (reader : Option ℕ) (calls : HasOpenCall old reading) (due : next_of old.coordinator ≡ nexts.Conflict number conflict reader) (met : IsConflictNow (setting_of false old.coordinator).course (session_knows old) number conflict reader) where
  abbrev known : Known
  known = session_knows old

  quiet : (n : ℕ) → is_on_way n old.desk ≡ false
  quiet n = calls.way n ∙ ap (λ b. b && not (waits_aside n old.desk)) (quiet_met old.coordinator number conflict reader due n)

  once : AreHeardOnce known
  once = heard_once old.desk calls.track calls.apart

  abbrev o : IsOpenedAs old.coordinator known
  o = rounds_of old.coordinator known number conflict reader calls.one.knows due

  no_written : old.coordinator.due ≡ dues.Tell answers.Written → ⊥
  no_written told = let e : dues.Call o.o.call ≡ dues.Tell answers.Written = sym o.due ∙ told in cc e

  -- the transaction is not decided
  undecided : (t : Txn) → IsCommitDecided known t → ⊥
  undecided t (inl (ts, is)) = met.undecided t ts is
  undecided t (inr (why, is)) =
      let w = o.in_call in
      let same : t ≡ w.t = same_Some t w.t (sym is.opened ∙ open_is known w.t w.open_in) in
      let f = any_of (IsUndecidedOf w.t) (ShowsAborted w.t.id why) known.heard w.stands.views (subst (λ (t : Txn). WasAborted known.heard t.id why) same is.heard) in
      undecided_not_aborted w.t f.0 why f.1 f.2

  all_now : All (λ m. IsTrue (is_heard known.heard_now m)) known.sent_now
  all_now = all_heard_now old calls.sent no_written quiet

  free : MayGoInCall old.coordinator.pipelining known
  free = record {
    undecided = undecided;
    beaten_last = no_last_beat known (met.beaten refl).first;
    unsent = λ piped. no_own old.coordinator known o.o.call o.at piped;
    proved = awaited_met old.coordinator known number conflict reader calls.one.knows due;
    heard = all_now;
  }

  next_in_turn : IsNextRoundIn old.coordinator.pipelining known met.h
  next_in_turn = by old.coordinator.pipelining refl calls.turn
    where
      by : (b : Bool) → old.coordinator.pipelining ≡ b → KeepsTurn b known old.coordinator.due → IsNextRoundIn b known met.h
      by false plain turn = next_round old.coordinator known number conflict reader calls.one.knows due met once plain turn
      by true piped turn = first_waiting old.coordinator known number conflict reader calls.one.knows due met once (subst (KeepsTurn true known) o.due turn) piped

  -- the round may be made
  pub may_round : (pusher : Pusher) → IsPusherOf known (Some pusher) → MayMakeRound old.desk pusher reading conflict reader
  may_round pusher pushes = record {
    back = record { track = calls.track; posted = none_posted old.desk quiet; replies = none_answered old.desk quiet };
    session = old.coordinator.session;
    whose = calls.one.whose;
    number = number;
    met = subst (λ b. IsConflictNow (course_of b) known number conflict reader) (sym calls.one.piped) met;
    pushes = pushes;
    read = ap reading_in calls.opened;
    next = subst (λ b. IsNextRoundIn b known met.h) (sym calls.one.piped) next_in_turn;
    goes = subst (λ b. MayGoInCall b known) (sym calls.one.piped) free;
  }

  module _ (d : DeskMeaning C) (c e : Coordination) (round : Round) (ts : ℕ) (made : HasMadeRoundOf old.desk d conflict round ts) (raised : c ≡ with_clock (max old.coordinator.clock ts) old.coordinator) where
    abbrev later : Known
    later = known_of d.log.part.own

    -- The session after it.
    abbrev pub round_then : SessionMeaning C
    round_then = record old { desk = d; coordinator = e }

    same-session : old.coordinator.session ≡ made.session
    same-session = let both : actors.Session old.coordinator.session ≡ actors.Session made.session = sym calls.one.whose ∙ made.whose in cc both

    track-later : KeepsTrack d
    track-later = made.goes.back.track

    away : (n : ℕ) → is_on_way n d ≡ false
    away = none_away d made.goes.back.posted made.goes.back.replies

    c-is : c ≡ with_clock later.high old.coordinator
    c-is =
        let beside = made.made.beside old.coordinator number reader same-session calls.one.knows due in
        raised ∙ ap (λ n. with_clock n old.coordinator) beside.clock

    c-due : next_of c ≡ nexts.Conflict number conflict reader
    c-due = ap next_of raised ∙ due

    numbers_on : All (λ (t : Txn). t.id.number ≤ later.begun) later.txns
    numbers_on = numbers_aside made.session known later ts made.made.aside calls.waiting.numbers

    left_on : HasLeft d.log.part.own old.jobs
    left_on = record {
      left = made.jobs ∙ calls.waiting.left;
      numbers = numbers_on;
      each = All-weaker (IsFinishable known) (IsFinishable later) made.made.left old.jobs calls.waiting.each;
    }

    abbrev aside : IsLaterAside made.session known later ts
    aside = made.made.aside

    apart_then : IsApartNow later
    apart_then = apart_aside old.desk d calls.track track-later made.session ts aside calls.apart

    -- all that was sent in the call was heard in it
    sent_all : All (λ m. IsTrue (is_heard later.heard_now m)) later.sent_now
    sent_all =
        subst (All (λ m. IsTrue (is_heard later.heard_now m))) (sym aside.sent_now)
        (All-append (λ (m : Sent). IsTrue (is_heard later.heard_now m)) known.sent_now aside.sent_more
        (All-weaker (λ m. IsTrue (is_heard known.heard_now m)) (λ m. IsTrue (is_heard later.heard_now m)) (λ m is. subst (λ hs. IsTrue (is_heard hs m)) (sym aside.heard_now) (heard_longer known.heard_now aside.heard_more m is)) known.sent_now all_now)
        (all_from_contains (λ (m : Sent). IsTrue (is_heard later.heard_now m)) aside.sent_more (λ m there.
        let mine : Contains later.sent_now m = subst (λ ms. Contains ms m) (sym aside.sent_now) (Contains-append_right known.sent_now aside.sent_more m there) in
        let none : is_heard apart_then.before m ≡ false = All-contains (λ (m : Sent). is_heard apart_then.before m ≡ false) later.sent_now m apart_then.apart mine in
        let ever : is_heard later.heard m ≡ true = All-contains (λ (m : Sent). IsTrue (is_heard later.heard m)) aside.sent_more m aside.sent_heard there in
        let split : is_heard later.heard m ≡ (is_heard apart_then.before m || is_heard later.heard_now m) = ap (λ hs. is_heard hs m) apart_then.split ∙ list_any-append (λ (h : Heard). h.number == m.number) apart_then.before later.heard_now in
        sym (ap (λ b. b || is_heard later.heard_now m) none) ∙ (sym split ∙ ever))))

    -- no wave is half heard, nor one of puts
    pub round_between : IsBetweenWaves d
    round_between = record {
      ends = ends_where_heard d.log.part.own (all_heard d track-later away);
      puts = puts_where_heard d.log.part.own (free_still made.session known later ts aside old.coordinator.pipelining free (All-weaker (λ m. IsTrue (is_heard later.heard_now m)) (IsHeardOrPut later.heard_now) (λ m is. inl is) later.sent_now sent_all)).proved;
      none_waits = made.goes.back.replies;
    }

    later_same : d.later ≡ old.desk.later
    later_same = made.goes.later

    aside_same : (n : ℕ) → waits_aside n d ≡ waits_aside n old.desk
    aside_same n = ap (list_any (λ (m : Posted). m.number == n)) later_same

    module _ (settles : (loses : Bool) (c' : Coordination) (start k : Known) (conflict : Reply) (reader : Option ℕ) → Knows loses c' start → c ≡ with_clock k.high c' → next_of c' ≡ nexts.Conflict number conflict reader → IsLaterBeside loses c' start k → EndsRound loses conflict round start k → Knows loses e k)
        (quiets : (loses : Bool) (c' : Coordination) (start k : Known) (conflict : Reply) (reader : Option ℕ) (other : ℕ) → loses ≡ false → Knows loses c' start → c ≡ with_clock k.high c' → next_of c' ≡ nexts.Conflict number conflict reader → IsLaterBeside loses c' start k → EndsRound loses conflict round start k
        → awaits_number other e.due ≡ false)
        (left : (number : ℕ) → has_waited number e.later ≡ true → has_waited number c.later ≡ true) (session : e.session ≡ c.session) (splits : e.splits ≡ c.splits) (pipelines : e.pipelining ≡ c.pipelining)
        (comes : (o : Opened) (conflict : Reply) → opened_by c.txn c.due ≡ Some o → step_of o.call.wave ≡ steps.Round number conflict → goes_by_sequence o.call.purpose ≡ false → ComesOfRound round number conflict o.call.wave e.due) where
      abbrev beside : MayGoOnBeside old.coordinator known later ts
      beside = made.made.beside old.coordinator number reader same-session calls.one.knows due

      knows_then : Knows false e later
      knows_then = settles false old.coordinator known later conflict reader calls.one.knows c-is due beside.later made.made.ends

      idle : (n : ℕ) → awaits_number n e.due ≡ false
      idle n = quiets false old.coordinator known later conflict reader n refl calls.one.knows c-is due beside.later made.made.ends

      way_is : (n : ℕ) → is_on_way n d ≡ (awaits_number n e.due && not (waits_aside n d))
      way_is n = away n ∙ sym (ap (λ b. b && not (waits_aside n d)) (idle n))

      sent_then : All (IsHeardOrAway round_then) later.sent_now
      sent_then = All-weaker (λ m. IsTrue (is_heard later.heard_now m)) (IsHeardOrAway round_then) (λ m is. inl is) later.sent_now sent_all

      opened_then : later.statement ≡ Some (record { call = calls.call; reading = reading })
      opened_then = aside.statement ∙ calls.opened

      outside_then : is_outside calls.call ≡ true → later.is_open ≡ false
      outside_then outside = aside.is_open ∙ calls.outside outside

      epoch_then : (n : ℕ) → waits_aside n d ≡ true → IsOfOpenEpoch later n
      epoch_then n is = epoch_aside made.session known later ts aside n (calls.aside.epoch n (sym (aside_same n) ∙ is)) (aside_low old.desk calls.track n (sym (aside_same n) ∙ is))

      waits_before : (n : ℕ) → IsWaitedFor e n → has_waited n old.coordinator.later ≡ true
      waits_before n (inl on) = absurd (let f : true ≡ false = sym on ∙ idle n in cc f)
      waits_before n (inr later_waits) = ap (λ (x : Coordination). has_waited n x.later) (sym raised) ∙ left n later_waits

      put_of : (n : ℕ) → IsWaitedFor e n → (request : Request) × (request_sent n known.sent ≡ Some request) × (is_put request ≡ true)
      put_of n waits =
          let has = waits_before n waits in
          let w = wait_said old.coordinator known o.o.call o.at n has in
          ((wait_of old.coordinator known o.o.call o.at n has).put.request, w.0, w.1)

      said_still : (n : ℕ) (request : Request) → IsWaitedFor e n → request_sent n (known_of (old.desk.log.part.own ++ made.part)).sent ≡ Some request → request_sent n known.sent ≡ Some request
      said_still n request waits said =
          let put = put_of n waits in
          let longer : (known_of (old.desk.log.part.own ++ made.part)).sent ≡ known.sent ++ made.made.aside.sent_more = ap (λ own. (known_of own).sent) (sym made.goes.grown.own) ∙ made.made.aside.sent in
          let told : request_sent n (known_of (old.desk.log.part.own ++ made.part)).sent ≡ Some put.0 = ap (request_sent n) longer ∙ said_more n known.sent made.made.aside.sent_more put.0 put.1 in
          put.1 ∙ ap Some (same_Some put.0 request (sym told ∙ said))

      -- the call goes on
      pub round_open : HasOpenCall round_then reading
      round_open = record {
        track = track-later;
        one = one_on old.desk d old.coordinator e made.part made.goes.grown calls.one (session ∙ ap (λ (x : Coordination). x.session) raised) (splits ∙ ap (λ (x : Coordination). x.splits) raised) (pipelines ∙ ap (λ (x : Coordination). x.pipelining) raised) knows_then;
        way = way_is;
        aside = record {
          waits = λ n waiting. elim (calls.aside.waits n (waits_before n (inr waiting))) [ inl is ↦ inl (aside_same n ∙ is) | inr rolls ↦ inr (ap call_in aside.statement ∙ rolls) ];
          why = λ n is. aside_why round_then track-later knows_then (record { call = calls.call; reading = reading }) opened_then outside_then apart_then sent_then n is (epoch_then n is);
          epoch = epoch_then;
        };
        sent = sent_then;
        call = calls.call;
        opened = opened_then;
        outside = outside_then;
        apart = apart_then;
        kinds = λ n q on. absurd (let e : true ≡ false = sym on ∙ away n in cc e);
        waiting = left_on;
        goes_out = λ ends. quiet_goes e idle;
        joins = λ silent n on is. absurd (let e : true ≡ false = sym on ∙ idle n in cc e);
        behind = subst (WaitsBehindHeard (IsWaitedFor e)) (sym made.goes.grown.own)
            (behind_aside old.desk.log.part.own made.part made.session ts (IsWaitedFor old.coordinator) (IsWaitedFor e) calls.behind (λ n waits. inr (waits_before n waits)) put_of (subst (λ own. IsLaterAside made.session known (known_of own) ts) made.goes.grown.own made.made.aside)
            (λ n request waits said. said_still n request waits said));
        turn =
            round_turn old.coordinator e known later number conflict reader round calls.one.knows knows_then (pipelines ∙ ap (λ (x : Coordination). x.pipelining) raised) due met calls.turn once (heard_once d track-later apart_then) made.made.begun made.made.ends beside.later idle
            (λ isnt. comes o.o conflict (ap (λ (x : Coordination). opened_by x.txn x.due) raised ∙ o.opened) (step_rounds old.coordinator known number conflict reader calls.one.knows due) isnt);
      }

    pub round_goes : e.session ≡ c.session → HasGoneInside old round_then
    round_goes session = record {
      part = made.part;
      grown = made.goes.grown;
      within = made.goes.within;
      limit = made.goes.limit;
      session = session ∙ ap (λ (x : Coordination). x.session) raised;
      statement = made.made.aside.statement;
    }
