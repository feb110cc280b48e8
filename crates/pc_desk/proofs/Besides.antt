-- A wave that was evaluated beside each other: its replies wait in order, or its list has ended.
use Rattle.std.proofs.Common.{◌≡◌, ℕ, ◌+◌, ◌<◌, ◌≤◌, ◌⊎◌, ◌==◌, ◌||◌, Bool, true, false, nat_lt, inl, inr, All, Contains, IsTrue, List, [], ◌∷◌, ◌++◌, length, map, Option, Some, Result, Ok, Err, IfErr, refl, sym, ap, subst, ◌∙◌, arith}
use Rattle.std.proofs.lemmas.Bool.{eq-eqb, eqb-true}
use Rattle.std.proofs.lemmas.List.{append-nil}
use Rattle.std.proofs.lemmas.List.Elements.{Contains-append_cases, Contains-append_left, Contains-append_right, All-contains, All-cons, All-head, All-nil, All-tail, All-weaker}
use Rattle.std.specs.List.{AllZip, list_any}
use Rattle.pc_base.specs.declared.actor.ActorId.{ActorId}
use Rattle.pc_base.specs.declared.actor.ActorId.TheVariants as actors
use Rattle.pc_desk.proofs.Counting.{any_counts, counted_once}
use Rattle.pc_desk.proofs.Ending.{all_wait, ended_memory, not_lost}
use Rattle.pc_desk.proofs.Halting.{wants_memory}
use Rattle.pc_desk.proofs.Refusing.{refused_still, was_given_back}
use Rattle.pc_desk.proofs.Tracking.{stray_on}
use Rattle.pc_desk.proofs.Waves.{in_wave_now}
use Rattle.pc_desk.specs.declared.answered.Answered.{Answered}
use Rattle.pc_desk.specs.declared.halt.Halt.{Halt}
use Rattle.pc_desk.specs.declared.halt.Halt.TheVariants as halts
use Rattle.pc_desk.specs.Desk.{AreInTurn, DeskMeaning, HasDelivered, HasHalted, IsAnsweredBy, IsOneSent, IsStray, KeepsTrack, KnowsFull, Posted, answered_as, as_sent, heard_as_number, is_on_way, posted_as, times_sent}
use Rattle.pc_desk.specs.Ending.{EndsBy, EndsOnly, HasEnded, IsNotLost, IsSpent, KnowsEvaluation, PostsInCall, PutsInCall, WaitsUnheard, all_waiting}
use Rattle.pc_desk.specs.OwnLog.{IsOwnLog, LogMeaning}
use Rattle.pc_desk.specs.Refused.{WasGivenBack}
use Rattle.pc_desk.specs.Waiting.{EndsUnheard, WentOn}
use Rattle.pc_desk.specs.Wave.{AreRisingMessages, EndsFor, GoesOut, HasKeptAll, HasStoppedFor, HasTakenWave, IsHaltOf, IsRefusalIn, IsReply, KnowsOutcome, answered_by, answers_in, posted_in, posted_of}
use Rattle.pc_follows.specs.WaveEvaluation.{IsInWave}
use Rattle.pc_history.specs.declared.named.Named.{Ghosts}
use Rattle.pc_history.specs.declared.pair.Pair.{Pair}
use Rattle.pc_history.specs.declared.view.Known.{Known as KnownEntry}
use Rattle.pc_history.specs.declared.view.Part.{Part}
use Rattle.pc_history.specs.Meanings.{NoteMeaning}
use Rattle.pc_lists.proofs.Counts.{count-cons, one_if}
use Rattle.pc_lists.proofs.Lists.{all_from_contains, contains_cons, contains_head, contains_in_map, contains_map, contains_nil, contains_tail}
use Rattle.pc_proto.specs.declared.event.Event.{Event}
use Rattle.pc_range.specs.declared.commit_world.CommitWorld.{CommitWorld}
use Rattle.pc_range.specs.declared.message.Message.{Message}
use Rattle.pc_range.specs.declared.message.ReplyMsg.{ReplyMsg}
use Rattle.pc_range.specs.declared.message.ServeFault.{ServeFault}
use Rattle.pc_range.specs.declared.message.ServeFault.TheVariants as faults
use Rattle.pc_range.specs.Cell.{IsFullAt}
use Rattle.pc_range.specs.Message.{evaluation}
use Rattle.pc_serving.specs.declared.delivery.Delivery.{Delivery}
use Rattle.pc_serving.specs.Delivery.{Became, IsReplyTo, MayBeServed}
use Rattle.pc_world.specs.Known.{Known, known_of}
use Rattle.pc_world.specs.Known.Traffic.{Heard, Sent, request_sent}
use Rattle.pc_world.specs.Local.{Head}
use Rattle.pc_world.specs.Tell.Refusal.{is_heard}

-- What was sent under this message's number asks this.
abbrev Says : List Sent → Posted → Type 0
Says sent m = request_sent m.number sent ≡ Some m.request

or-false : (b : Bool) → (b || false) ≡ b
or-false true = refl
or-false false = refl

-- ---- a message and its reply

module _ (own : List (Pair Event)) (id : ActorId) (known : List (KnownEntry Event)) where
  -- The reply is to the message, of an evaluation that is known, behind all these entries.
  record Answers (m : Posted) (a : Answered) : Type 0 where
    place : ℕ
    number : a.number ≡ m.number
    behind : All (λ (p : Pair Event). p.entry.step < a.step) own
    knows : Contains known (record { entry = evaluation a.step m.range id a.number a.reply; place = place; uses = 0 })

  counts : (ms : List Posted) (rs : List Answered) → AllZip Answers ms rs → (n : ℕ) → answered_as n rs ≡ posted_as n ms
  counts [] [] zips n = refl
  counts [] (a ∷ rs) zips n = absurd zips
  counts (m ∷ ms) [] zips n = absurd zips
  counts (m ∷ ms) (a ∷ rs) zips n =
      let rest = counts ms rs zips.1 n in
      let one : one_if (a.number == n) ≡ one_if (m.number == n) = ap (λ i. one_if (i == n)) zips.0.number in
      omega (arith, rest, one, count-cons (λ (x : Answered). x.number == n) a rs, count-cons (λ (x : Posted). x.number == n) m ms)

  all-later : (least : ℕ) (ms : List Posted) (rs : List Answered) → AllZip Answers ms rs → All (λ (m : Posted). least < m.number) ms → All (λ (a : Answered). least < a.number) rs
  all-later least [] [] zips later = All-nil (λ (a : Answered). least < a.number)
  all-later least [] (a ∷ rs) zips later = absurd zips
  all-later least (m ∷ ms) [] zips later = absurd zips
  all-later least (m ∷ ms) (a ∷ rs) zips later =
      All-cons (λ (b : Answered). least < b.number) a rs (subst (λ n. least < n) (sym zips.0.number) (All-head (λ (x : Posted). least < x.number) m ms later))
      (all-later least ms rs zips.1 (All-tail (λ (x : Posted). least < x.number) m ms later))

  in-turn : (ms : List Posted) (rs : List Answered) → AllZip Answers ms rs → AreRisingMessages ms → AreInTurn rs
  in-turn [] [] zips rising = tt
  in-turn [] (a ∷ rs) zips rising = absurd zips
  in-turn (m ∷ ms) [] zips rising = absurd zips
  in-turn (m ∷ ms) (a ∷ rs) zips rising = (
    subst (λ n. All (λ (b : Answered). n < b.number) rs) (sym zips.0.number) (all-later m.number ms rs zips.1 rising.0),
    in-turn ms rs zips.1 rising.1,
  )

  in-wave : (ms : List Posted) (rs : List Answered) → AllZip Answers ms rs → All (λ (m : Posted). EndsUnheard own) ms → All (λ (a : Answered). IsInWave own a.step) rs
  in-wave [] [] zips unheard = All-nil (λ (a : Answered). IsInWave own a.step)
  in-wave [] (a ∷ rs) zips unheard = absurd zips
  in-wave (m ∷ ms) [] zips unheard = absurd zips
  in-wave (m ∷ ms) (a ∷ rs) zips unheard =
      All-cons (λ (b : Answered). IsInWave own b.step) a rs (in_wave_now own a.step (All-head (λ (x : Posted). EndsUnheard own) m ms unheard) zips.0.behind)
      (in-wave ms rs zips.1 (All-tail (λ (x : Posted). EndsUnheard own) m ms unheard))

  answered-so : {C : Type 0} (log : LogMeaning C) → log.part.own ≡ own → log.part.id ≡ id → log.part.known ≡ known → (ms : List Posted) (rs : List Answered) → AllZip Answers ms rs → All (Says (known_of own).sent) ms → All (IsAnsweredBy log) rs
  answered-so log own-is id-is known-is [] [] zips says = All-nil (IsAnsweredBy log)
  answered-so log own-is id-is known-is [] (a ∷ rs) zips says = absurd zips
  answered-so log own-is id-is known-is (m ∷ ms) [] zips says = absurd zips
  answered-so log own-is id-is known-is (m ∷ ms) (a ∷ rs) zips says =
      All-cons (IsAnsweredBy log) a rs
      (record {
        range = m.range;
        place = zips.0.place;
        request = m.request;
        said = subst (λ n. request_sent n (known_of log.part.own).sent ≡ Some m.request) (sym zips.0.number) (subst (λ o. request_sent m.number (known_of o).sent ≡ Some m.request) (sym own-is) (All-head (Says (known_of own).sent) m ms says));
        knows = subst (λ ks. Contains ks (record { entry = evaluation a.step m.range log.part.id a.number a.reply; place = zips.0.place; uses = 0 })) (sym known-is)
            (subst (λ i. Contains known (record { entry = evaluation a.step m.range i a.number a.reply; place = zips.0.place; uses = 0 })) (sym id-is) zips.0.knows);
      })
      (answered-so log own-is id-is known-is ms rs zips.1 (All-tail (Says (known_of own).sent) m ms says))

-- ---- all of them may be served

pub wave_may_be_served : {C N : Type 0} {G : Ghosts N CommitWorld} (old taken v : DeskMeaning C) (splits : List (List ℕ)) (wave : List (Delivery N G)) → HasTakenWave old taken wave → v ≡ taken → splits ≡ v.log.head.splits → All (MayBeServed splits) wave
wave_may_be_served {C} {N} {G} old taken v splits wave took same cut =
    let here : splits ≡ old.log.head.splits = cut ∙ (ap (λ (d : DeskMeaning C). d.log.head.splits) same ∙ ap (λ (d : DeskMeaning C). d.log.head.splits) took.rest) in
    subst (λ s. All (MayBeServed s) wave) (sym here) (All-weaker (GoesOut old) (MayBeServed old.log.head.splits) (λ d goes. goes.may) wave took.each)

-- ---- all of them were evaluated

module _ {C N : Type 0} {G : Ghosts N CommitWorld} (old taken new : DeskMeaning C) (wave : List (Delivery N G)) (outcomes : List (Result (ReplyMsg N) (ServeFault N G))) (track : KeepsTrack old) (took : HasTakenWave old taken wave) (all : taken.posted ≡ [])
    (became : AllZip (Became old.range_limit) wave outcomes) where
  wave-is : old.posted ≡ posted_in wave
  wave-is = took.whole ∙ (ap (λ ps. posted_in wave ++ ps) all ∙ append-nil (posted_in wave))

  taken-is : taken ≡ record old { posted = [] }
  taken-is = took.rest ∙ ap (λ ps. record old { posted = ps }) all

  module _ (beside : old.log.beside ≡ true) (none : old.replies ≡ []) (replies : All IsReply outcomes) (kept : HasKeptAll taken new outcomes) where
    abbrev now-known : List (KnownEntry Event)
    now-known = new.log.part.known

    -- The desk, as it is then.
    abbrev then : DeskMeaning C
    then = record old { log = record old.log { part = record old.log.part { known = now-known } }; posted = []; replies = answers_in outcomes }

    new-is : new ≡ then
    new-is =
        kept.rest
        ∙ (ap (λ (t : DeskMeaning C). record t { log = record t.log { part = record t.log.part { known = now-known } }; replies = t.replies ++ answers_in outcomes }) taken-is
        ∙ ap (λ rs. record old { log = record old.log { part = record old.log.part { known = now-known } }; posted = []; replies = rs ++ answers_in outcomes }) none)

    abbrev Pairs : Posted → Answered → Type 0
    Pairs = Answers old.log.part.own old.log.part.id now-known

    paired-one : (d : Delivery N G) (r : ReplyMsg N) → GoesOut old d → IsReplyTo d r → ((k : KnownEntry Event) → Contains r.note.known k → Contains now-known k) → Pairs (posted_of d.message) (answered_by r)
    paired-one d r goes is knows = record {
      place = is.told.place;
      number = is.number;
      behind = goes.behind r.step is.behind;
      knows = subst (λ n. Contains now-known (record { entry = evaluation r.step d.message.range old.log.part.id n r.reply; place = is.told.place; uses = 0 })) (sym is.number)
          (subst (λ i. Contains now-known (record { entry = evaluation r.step d.message.range i d.message.number r.reply; place = is.told.place; uses = 0 })) goes.whose
          (knows (record { entry = evaluation r.step d.message.range d.message.sender d.message.number r.reply; place = is.told.place; uses = 0 })
          (subst (λ l. Contains l (record { entry = evaluation r.step d.message.range d.message.sender d.message.number r.reply; place = is.told.place; uses = 0 })) (sym is.told.tells)
          (contains_head (record { entry = evaluation r.step d.message.range d.message.sender d.message.number r.reply; place = is.told.place; uses = 0 }) []))));
    }

    paired : (ds : List (Delivery N G)) (os : List (Result (ReplyMsg N) (ServeFault N G))) → AllZip (Became old.range_limit) ds os → All (GoesOut old) ds → All IsReply os → All (KnowsOutcome new.log.part) os → AllZip Pairs (posted_in ds) (answers_in os)
    paired [] [] zips goes is knows = tt
    paired [] (o ∷ os) zips goes is knows = absurd zips
    paired (d ∷ ds) [] zips goes is knows = absurd zips
    paired (d ∷ ds) (Ok r ∷ os) zips goes is knows = (
      paired-one d r (All-head (GoesOut old) d ds goes) zips.0 (All-head (KnowsOutcome new.log.part) (Ok r) os knows),
      paired ds os zips.1 (All-tail (GoesOut old) d ds goes) (All-tail IsReply (Ok r) os is) (All-tail (KnowsOutcome new.log.part) (Ok r) os knows),
    )
    paired (d ∷ ds) (Err fault ∷ os) zips goes is knows = absurd (All-head IsReply (Err fault) os is)

    pairs : AllZip Pairs old.posted (answers_in outcomes)
    pairs = subst (λ ps. AllZip Pairs ps (answers_in outcomes)) (sym wave-is) (paired wave outcomes became took.each replies kept.learnt.knows)

    counted : (n : ℕ) → answered_as n (answers_in outcomes) ≡ posted_as n old.posted
    counted n = counts old.log.part.own old.log.part.id now-known old.posted (answers_in outcomes) pairs n

    none-answered : (n : ℕ) → answered_as n old.replies ≡ 0
    none-answered n = ap (answered_as n) none

    knows-on : (k : KnownEntry Event) → Contains old.log.part.known k → Contains now-known k
    knows-on k there = kept.learnt.more k (subst (λ (t : DeskMeaning C). Contains t.log.part.known k) (sym taken-is) there)

    track-then : KeepsTrack then
    track-then = record {
      log = subst (λ (d : DeskMeaning C). IsOwnLog d.log) new-is kept.log;
      counted = track.counted;
      numbers = track.numbers;
      once = track.once;
      dropped = track.dropped;
      strays = All-weaker (IsStray old.log) (IsStray then.log) (λ p. stray_on old.log then.log p refl (λ one. one) knows-on) track.dropped track.strays;
      stages = λ n. let s = track.stages n in omega (arith, s, counted n, none-answered n);
      posted = All-nil (Says (known_of old.log.part.own).sent);
      waits = All-nil (IsOneSent (known_of old.log.part.own).sent);
      aside = track.aside;
      answered = answered-so old.log.part.own old.log.part.id now-known then.log refl refl refl old.posted (answers_in outcomes) pairs track.posted;
      turn = record {
        rising = in-turn old.log.part.own old.log.part.id now-known old.posted (answers_in outcomes) pairs (subst AreRisingMessages (sym wave-is) took.rising);
        behind = All-nil (λ (m : Posted). All (λ (a : Answered). a.number < m.number) (answers_in outcomes));
      };
      wave = record {
        wave = in-wave old.log.part.own old.log.part.id now-known old.posted (answers_in outcomes) pairs track.wave.unheard;
        unheard = All-nil (λ (m : Posted). EndsUnheard old.log.part.own);
        order = λ one. let e : true ≡ false = sym beside ∙ one in absurd cc;
        heard = track.wave.heard;
      };
      given = record { each = track.given.each; once = track.given.once };
    }

    way-then : (n : ℕ) → is_on_way n then ≡ is_on_way n old
    way-then n =
        any_counts (λ (y : Answered). y.number == n) (answers_in outcomes)
        ∙ (ap (λ m. nat_lt 0 m) (counted n)
        ∙ (sym (any_counts (λ (y : Posted). y.number == n) old.posted)
        ∙ (sym (or-false (list_any (λ (y : Posted). y.number == n) old.posted))
        ∙ ap (λ rs. list_any (λ (y : Posted). y.number == n) old.posted || list_any (λ (y : Answered). y.number == n) rs) (sym none))))

    delivered-then : HasDelivered old then
    delivered-then = record {
      own = refl;
      sends = refl;
      track = track-then;
      way = way-then;
      later = refl;
      more = knows-on;
      limit = refl;
    }

    pub wave_delivered : HasDelivered old new
    wave_delivered = subst (HasDelivered old) (sym new-is) delivered-then

  -- ---- a range gave some of them back

  module _ (in_call : PostsInCall old) (stopped : HasStoppedFor taken new outcomes) where
    abbrev know : List (KnownEntry Event)
    know = new.log.part.known

    -- The desk that has stopped.
    abbrev over : DeskMeaning C
    over = record old { log = record old.log { part = record old.log.part { known = know }; stopped = true }; posted = [] }

    new-over : new ≡ over
    new-over = stopped.rest ∙ ap (λ (t : DeskMeaning C). record t { log = record t.log { part = record t.log.part { known = know }; stopped = true } }) taken-is

    -- The message was spent, or its evaluation is known.
    abbrev Fate : Delivery N G → Type 0
    Fate d = IsSpent over (as_sent (posted_of d.message)) ⊎ KnowsEvaluation over.log.part d.message.number

    posted-there : (d : Delivery N G) → Contains wave d → Contains old.posted (posted_of d.message)
    posted-there d there = subst (λ l. Contains l (posted_of d.message)) (sym wave-is) (contains_map (λ (x : Delivery N G). posted_of x.message) wave d there)

    waited : (d : Delivery N G) → Contains wave d → WaitsUnheard (known_of old.log.part.own) (posted_of d.message)
    waited d there =
        All-contains (WaitsUnheard (known_of old.log.part.own)) (all_waiting old) (posted_of d.message) (all_wait old track)
        (Contains-append_left old.posted old.later (posted_of d.message) (posted-there d there))

    spent-by : (d : Delivery N G) (at : ℕ) (last : NoteMeaning Head Event) (message : Message N G) → GoesOut old d → IsFullAt d.message.range old.range_limit d.message (faults.Full at last message) → KnowsOutcome new.log.part (Err (faults.Full at last message))
        → WasGivenBack old.range_limit over.log.part (as_sent (posted_of d.message))
    spent-by d at last message goes full knows =
        let m = posted_of d.message in
        let part : Part Event = record old.log.part { known = last.known ++ d.message.note.known } in
        let knows-it = subst (λ (x : Message N G). (k : KnownEntry Event) → Contains (last.known ++ x.note.known) k → Contains know k) full.2 knows in
        refused_still old.range_limit old.range_limit part over.log.part (as_sent m) refl refl knows-it
        (was_given_back old.range_limit part m d.message last.known [] refl full.1 goes.whose refl goes.may.use_left)

    fate-of : (d : Delivery N G) (o : Result (ReplyMsg N) (ServeFault N G)) → Contains wave d → GoesOut old d → Became old.range_limit d o → KnowsOutcome new.log.part o → Fate d
    fate-of d (Ok r) there goes is knows =
        let k : KnownEntry Event = record { entry = evaluation r.step d.message.range d.message.sender d.message.number r.reply; place = is.told.place; uses = 0 } in
        inr (record { evaluation = k; knows = knows k (subst (λ l. Contains l k) (sym is.told.tells) (contains_head k [])); of_it = (goes.whose, refl) })
    fate-of d (Err (faults.Full at last message)) there goes full knows = inl (record { refused = spent-by d at last message goes full knows; unheard = (waited d there).unheard })
    fate-of d (Err faults.NoMemory) there goes full knows = absurd knows

    fates : (ds : List (Delivery N G)) (os : List (Result (ReplyMsg N) (ServeFault N G))) → ((d : Delivery N G) → Contains ds d → Contains wave d) → AllZip (Became old.range_limit) ds os → All (GoesOut old) ds → All (KnowsOutcome new.log.part) os → All Fate ds
    fates [] [] within zips goes knows = All-nil Fate
    fates [] (o ∷ os) within zips goes knows = absurd zips
    fates (d ∷ ds) [] within zips goes knows = absurd zips
    fates (d ∷ ds) (o ∷ os) within zips goes knows =
        All-cons Fate d ds (fate-of d o (within d (contains_head d ds)) (All-head (GoesOut old) d ds goes) zips.0 (All-head (KnowsOutcome new.log.part) o os knows))
        (fates ds os (λ x there. within x (contains_tail d ds x there)) zips.1 (All-tail (GoesOut old) d ds goes) (All-tail (KnowsOutcome new.log.part) o os knows))

    all-fates : All Fate wave
    all-fates = fates wave outcomes (λ d there. there) became took.each stopped.learnt.knows

    -- what was sent under its number is it
    the-one : (d : Delivery N G) → Contains wave d → (x : Sent) → Contains (known_of old.log.part.own).sent x → d.message.number ≡ x.number → as_sent (posted_of d.message) ≡ x
    the-one d within x there same =
        counted_once (λ (y : Sent). y.number == d.message.number) (known_of old.log.part.own).sent (as_sent (posted_of d.message)) x (track.once d.message.number) (waited d within).sent there (eq-eqb d.message.number d.message.number refl)
        (eq-eqb x.number d.message.number (sym same))

    others : (x : Sent) → Contains (known_of old.log.part.own).sent x → IsNotLost old x → IsSpent over x ⊎ IsNotLost over x
    others x there (inl heard) = inr (inl heard)
    others x there (inr (inl waits)) = elim (Contains-append_cases old.posted old.later waits.waiting waits.there) [
      | inl of_wave ↦
          let w = contains_in_map (λ (d : Delivery N G). posted_of d.message) wave waits.waiting (subst (λ l. Contains l waits.waiting) wave-is of_wave) in
          let number : w.0.message.number ≡ x.number = ap (λ (p : Posted). p.number) w.2 ∙ waits.is in
          elim (All-contains Fate wave w.0 all-fates w.1) [
            | inl spent ↦ inl (subst (IsSpent over) (the-one w.0 w.1 x there number) spent)
            | inr knows ↦ inr (inr (inr (subst (KnowsEvaluation over.log.part) number knows)))
          ]
      | inr aside ↦ inr (inr (inl (record { waiting = waits.waiting; there = aside; is = waits.is })))
    ]
    others x there (inr (inr knows)) =
        inr (inr (inr (record { evaluation = knows.evaluation; knows = stopped.learnt.more knows.evaluation (subst (λ (t : DeskMeaning C). Contains t.log.part.known knows.evaluation) (sym taken-is) knows.knows); of_it = knows.of_it })))

    -- The message that a full range gave back.
    record GivenBack (at : ℕ) : Type 0 where
      delivery : Delivery N G
      within : Contains wave delivery
      at-is : at ≡ delivery.message.range
      back : WasGivenBack old.range_limit over.log.part (as_sent (posted_of delivery.message))

    given-back : (at : ℕ) (last : NoteMeaning Head Event) (message : Message N G) (ds : List (Delivery N G)) (os : List (Result (ReplyMsg N) (ServeFault N G))) → ((d : Delivery N G) → Contains ds d → Contains wave d) → AllZip (Became old.range_limit) ds os → All (GoesOut old) ds
        → All (KnowsOutcome new.log.part) os → Contains os (Err (faults.Full at last message)) → GivenBack at
    given-back at last message ds [] within zips goes knows there = absurd (contains_nil (Err (faults.Full at last message)) there)
    given-back at last message [] (o ∷ os) within zips goes knows there = absurd zips
    given-back at last message (d ∷ ds) (o ∷ os) within zips goes knows there = elim (contains_cons o os (Err (faults.Full at last message)) there) [
      | inl here ↦
          let full : IsFullAt d.message.range old.range_limit d.message (faults.Full at last message) = subst (Became old.range_limit d) here zips.0 in
          let told = subst (KnowsOutcome new.log.part) here (All-head (KnowsOutcome new.log.part) o os knows) in
          record { delivery = d; within = within d (contains_head d ds); at-is = full.0; back = spent-by d at last message (All-head (GoesOut old) d ds goes) full told }
      | inr later ↦
          given-back at last message ds os (λ x c. within x (contains_tail d ds x c)) zips.1 (All-tail (GoesOut old) d ds goes) (All-tail (KnowsOutcome new.log.part) o os knows) later
    ]

    one-back : (at : ℕ) (last : NoteMeaning Head Event) (message : Message N G) → Contains outcomes (Err (faults.Full at last message)) → GivenBack at
    one-back at last message there = given-back at last message wave outcomes (λ d c. c) became took.each stopped.learnt.knows there

    ended-over : (at : ℕ) → GivenBack at → HasEnded old over
    ended-over at b = record {
      known = λ k there. stopped.learnt.more k (subst (λ (t : DeskMeaning C). Contains t.log.part.known k) (sym taken-is) there);
      rest = refl;
      limit = refl;
      end = inr (record {
        message = as_sent (posted_of b.delivery.message);
        sent = (waited b.delivery b.within).sent;
        spent = record { refused = b.back; unheard = (waited b.delivery b.within).unheard };
        in_call = All-contains (λ (p : Posted). PutsInCall (known_of old.log.part.own) p.request) old.posted (posted_of b.delivery.message) in_call (posted-there b.delivery b.within);
        others = all_from_contains (λ (x : Sent). IsSpent over x ⊎ IsNotLost over x) (known_of old.log.part.own).sent
            (λ x there. others x there (All-contains (IsNotLost old) (known_of old.log.part.own).sent x (not_lost old track) there));
        waits = all_from_contains (WaitsUnheard (known_of old.log.part.own)) old.later
            (λ p there. All-contains (WaitsUnheard (known_of old.log.part.own)) (all_waiting old) p (all_wait old track) (Contains-append_right old.posted old.later p there));
        later = All-nil (λ (p : Posted). b.delivery.message.number < p.number);
      });
    }

    halted-over : (at : ℕ) → GivenBack at → HasHalted old over (halts.Full (actors.Range at))
    halted-over at b = record { stopped = refl; head = refl; id = refl; cause = inr (b.delivery.message.range, ap actors.Range b.at-is, b.back.full) }

    memory-over : HasHalted old over halts.NoMemory
    memory-over = record { stopped = refl; head = refl; id = refl; cause = tt }

    -- the list has ended for this fault
    stops-at : (fault : ServeFault N G) (halt : Halt) → Contains outcomes (Err fault) → IsHaltOf fault halt → HasHalted old over halt × EndsBy (λ made. ⊥) old over halt
    stops-at (faults.Full at last message) halt there is =
        let b = one-back at last message there in
        subst (λ h. HasHalted old over h × EndsBy (λ made. ⊥) old over h) (sym is) (halted-over at b, ended-over at b)
    stops-at faults.NoMemory halt there is = subst (λ h. HasHalted old over h × EndsBy (λ made. ⊥) old over h) (sym is) (memory-over, tt)

    -- the refusal is one of the outcomes
    is-among : (cause : Halt) (refusal : IsRefusalIn outcomes cause) → Contains outcomes (Err refusal.fault)
    is-among cause refusal =
        let rest = Err refusal.fault ∷ refusal.behind in
        subst (λ os. Contains os (Err refusal.fault)) (sym refusal.whole)
        (Contains-append_right refusal.before rest (Err refusal.fault) (contains_head (Err refusal.fault) refusal.behind))

    pub stops_for : (cause : Halt) → IsRefusalIn outcomes cause → HasHalted old new cause × EndsBy (λ made. ⊥) old new cause
    stops_for cause refusal = subst (λ (d : DeskMeaning C). HasHalted old d cause × EndsBy (λ made. ⊥) old d cause) (sym new-over) (stops-at refusal.fault cause (is-among cause refusal) refusal.is)

  -- the list has ended, for want of memory or for a refusal
  pub wave_halted : (in_call : PostsInCall old) (cause halt : Halt) → IsRefusalIn outcomes cause → EndsFor taken new outcomes cause halt → HasHalted old new halt
  wave_halted in_call cause halt refusal (inl memory) =
      subst (HasHalted old new) (sym memory.0)
      (wants_memory old taken new halts.NoMemory refl (ap (λ (d : DeskMeaning C). d.log.head) took.rest) (ap (λ (d : DeskMeaning C). d.log.part.id) took.rest) memory.1)
  wave_halted in_call cause halt refusal (inr stopped) = subst (HasHalted old new) (sym stopped.0) (stops_for in_call stopped.1 cause refusal).0

  pub wave_ended : (in_call : PostsInCall old) (cause halt : Halt) → IsRefusalIn outcomes cause → EndsFor taken new outcomes cause halt → EndsOnly (λ made. ⊥) old new halt
  wave_ended in_call cause halt refusal (inl memory) = λ going. subst (EndsBy (λ made. ⊥) old new) (sym memory.0) tt
  wave_ended in_call cause halt refusal (inr stopped) = λ going. subst (EndsBy (λ made. ⊥) old new) (sym stopped.0) (stops_for in_call stopped.1 cause refusal).1

-- ---- want of memory, after the wave was taken

pub wave_halted_unless : {C N X : Type 0} {G : Ghosts N CommitWorld} (old taken new : DeskMeaning C) (wave : List (Delivery N G)) (r : Result X Halt) → HasTakenWave old taken wave → IfErr r (λ halt. halt ≡ halts.NoMemory) → IfErr r (HasHalted taken new) → IfErr r (HasHalted old new)
wave_halted_unless old taken new wave (Ok x) took want halted = tt
wave_halted_unless {C} old taken new wave (Err halt) took want halted =
    wants_memory old taken new halt want (ap (λ (d : DeskMeaning C). d.log.head) took.rest) (ap (λ (d : DeskMeaning C). d.log.part.id) took.rest) halted

pub ended_unless : {C X : Type 0} (Is : Event → Type 0) (old new : DeskMeaning C) (r : Result X Halt) → IfErr r (λ halt. halt ≡ halts.NoMemory) → IfErr r (EndsOnly Is old new)
ended_unless Is old new (Ok x) want = tt
ended_unless Is old new (Err halt) want = ended_memory Is old new halt want
