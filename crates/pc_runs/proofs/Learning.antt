-- Learns in the order of the clients' entries are told truly in the history.
use Rattle.std.proofs.Common.{◌≡◌, inl, inr, ℕ, Bool, true, false, cond, List, [], ◌∷◌, ◌++◌, filter, Contains, Option, Some, refl, sym, ap, subst, ◌∙◌}
use Rattle.std.proofs.lemmas.Bool.{false≢true}
use Rattle.std.proofs.lemmas.List.{append-nil, append_assoc}
use Rattle.std.proofs.lemmas.List.Elements.{Contains-push_cases, filter-append}
use Rattle.pc_base.specs.declared.actor.ActorId.{ActorId}
use Rattle.pc_base.specs.declared.actor.ActorId.TheVariants as actors
use Rattle.pc_base.specs.declared.entry.Entry.{Entry}
use Rattle.pc_base.specs.declared.transaction.TxnId.{TxnId}
use Rattle.pc_desk.specs.Keeping.{EachAfter}
use Rattle.pc_history.proofs.Histories.{contains-own, pairs_after-append}
use Rattle.pc_history.proofs.Ids.{same_id-true}
use Rattle.pc_history.specs.declared.pair.Pair.{Pair}
use Rattle.pc_history.specs.History.{MayFollow}
use Rattle.pc_history.specs.Own.{entries_of, named_in, own, pair, pairs_after, pairs_of, same_id}
use Rattle.pc_implicit.proofs.Agreed.{agreed, says_own}
use Rattle.pc_implicit.proofs.Commits.{act_of}
use Rattle.pc_implicit.proofs.Doing.{Does}
use Rattle.pc_lists.proofs.Lists.{contains_map, contains_nil}
use Rattle.pc_proto.specs.declared.answer.Answer.TheVariants as answers
use Rattle.pc_proto.specs.declared.call.Call.TheVariants as calls
use Rattle.pc_proto.specs.declared.event.Event.{Event}
use Rattle.pc_proto.specs.declared.event.Event.TheVariants as events
use Rattle.pc_runs.specs.Learning.{LearnInOrder, LearnsNext, LearnsOf}
use Rattle.pc_script.specs.Learning.{AllLearnTruly, LearnsTruly, WasCommitTold}
use Rattle.pc_turns.specs.Clients.{client_pairs, is_client, share_of}
use Rattle.pc_turns.specs.Order.{entries_by}
use Rattle.pc_world.proofs.Prefixes.{run_front, run_induction, run_may}
use Rattle.pc_world.specs.After.{known_at}
use Rattle.pc_world.specs.Caused.{TellsCommitted}
use Rattle.pc_world.specs.Known.{Known, call_of, known_of}
use Rattle.pc_world.specs.Local.{Head, MayComeNext, MayMeet}
use Rattle.pc_world.specs.Run.{IsRun, protocol}

module _ (P : List (Pair Event) → Pair Event → Type 0) where
  -- at a place among the later ones
  pub each_at : (before done : List (Pair Event)) (p : Pair Event) (rest : List (Pair Event)) → EachAfter P before (done ++ p ∷ rest) → P (before ++ done) p
  each_at before [] p rest each = subst (λ l. P l p) (sym (append-nil before)) each.0
  each_at before (x ∷ done) p rest each = subst (λ l. P l p) (append_assoc before (x ∷ []) done) (each_at (before ++ x ∷ []) done p rest each.1)

  -- from what is so at each place
  pub each_from : (before xs : List (Pair Event)) → ((done : List (Pair Event)) (p : Pair Event) (rest : List (Pair Event)) → xs ≡ done ++ p ∷ rest → P (before ++ done) p) → EachAfter P before xs
  each_from before [] all = tt
  each_from before (x ∷ xs) all = (
    subst (λ l. P l x) (append-nil before) (all [] x xs refl),
    each_from (before ++ x ∷ []) xs (λ done p rest whole. subst (λ l. P l p) (sym (append_assoc before (x ∷ []) done)) (all (x ∷ done) p rest (ap (λ l. x ∷ l) whole))),
  )

-- ---- who tells a commit

tells-what : (id : TxnId) (event : Event) → TellsCommitted id event → (ts : ℕ) × (event ≡ events.Tell (answers.Committed id ts))
tells-what id (events.Tell (answers.Committed other ts)) h = (ts, ap (λ i. events.Tell (answers.Committed i ts)) h)
tells-what id event h = absurd h

-- The commit is told by the session that began the transaction.
abbrev ToldByOwner : List (Entry Event) → Type 0
ToldByOwner history = (x : Entry Event) → Contains history x → (id : TxnId) → TellsCommitted id x.event → x.actor ≡ actors.Session id.session

owner-now : (head : Head) (history : List (Entry Event)) (e : Entry Event) → IsRun head history → MayFollow (protocol head) history e → (id : TxnId) → TellsCommitted id e.event → e.actor ≡ actors.Session id.session
owner-now head history e run may id tells =
    let k = known_at head e.actor history in
    let what = tells-what id e.event tells in
    let act : Does head e.actor k (events.Tell (answers.Committed id what.0)) = subst (Does head e.actor k) what.1 (act_of head history e may) in
    (says_own head e.actor k (events.Tell (answers.Committed id what.0)) (agreed head history run e.actor).numbered act).0

pub told_by_owner : (head : Head) (history : List (Entry Event)) → IsRun head history → ToldByOwner history
told_by_owner head history run = run_induction head ToldByOwner (λ x there id tells. absurd (contains_nil x there)) step history run
  where
    step : (history : List (Entry Event)) (e : Entry Event) → IsRun head history → MayFollow (protocol head) history e → ToldByOwner history → ToldByOwner (history ++ e ∷ [])
    step history e run may all x there id tells =
        elim (Contains-push_cases history e x there) [
          | inl before ↦ all x before id tells
          | inr now ↦
              subst (λ (y : Entry Event). y.actor ≡ actors.Session id.session) now
              (owner-now head history e run may id (subst (λ (y : Entry Event). TellsCommitted id y.event) (sym now) tells))
        ]

-- ---- the clients' entries

-- of the clients' entries an actor's are its own
module _ (id : ActorId) (client : is_client id ≡ true) where
  share-by : (p : Pair Event) (clients mine : List (Pair Event)) → share_of id clients ≡ mine → (c s : Bool) → is_client p.entry.actor ≡ c → same_id id p.entry.actor ≡ s → share_of id (cond c (p ∷ clients) clients) ≡ cond s (p ∷ mine) mine
  share-by p clients mine rest true true is same = ap (λ b. cond b (p ∷ share_of id clients) (share_of id clients)) same ∙ ap (λ qs. p ∷ qs) rest
  share-by p clients mine rest true false is same = ap (λ b. cond b (p ∷ share_of id clients) (share_of id clients)) same ∙ rest
  share-by p clients mine rest false true is same =
      let whose : id ≡ p.entry.actor = same_id-true id p.entry.actor same in
      absurd (false≢true (sym is ∙ (ap is_client (sym whose) ∙ client)))
  share-by p clients mine rest false false is same = rest

  pub share_is_own : (ps : List (Pair Event)) → share_of id (filter (λ (p : Pair Event). is_client p.entry.actor) ps) ≡ filter (λ (p : Pair Event). same_id id p.entry.actor) ps
  share_is_own [] = refl
  share_is_own (p ∷ ps) =
      share-by p (filter (λ (q : Pair Event). is_client q.entry.actor) ps) (filter (λ (q : Pair Event). same_id id q.entry.actor) ps) (share_is_own ps) (is_client p.entry.actor) (same_id id p.entry.actor) refl refl

-- where a client's entry stands among those of all
clients-split : (head : Head) (before : List (Entry Event)) (e : Entry Event) (later : List (Entry Event)) → is_client e.actor ≡ true
    → (rest : List (Pair Event)) × (client_pairs head (before ++ e ∷ later) ≡ client_pairs head before ++ pair e (named_in (protocol head) before e.event) ∷ rest)
clients-split head before e later client =
    let S = protocol head in
    let p : Pair Event = pair e (named_in S before e.event) in
    let test : Pair Event → Bool = λ (q : Pair Event). is_client q.entry.actor in
    let later_pairs = pairs_after S (before ++ e ∷ []) later in
    let rest = filter test later_pairs in (
      rest,
      ap (filter test) (pairs_after-append S [] before (e ∷ later))
          ∙ (filter-append test (pairs_of S before) (p ∷ later_pairs)
          ∙ ap (λ b. client_pairs head before ++ cond b (p ∷ rest) rest) client),
    )

-- ---- each learn is told truly

event-client : (head : Head) (actor : ActorId) (own : List (Pair Event)) (other : TxnId) (step : ℕ) (named : Option (Entry Event)) → MayComeNext head actor own (events.Meet other step) named → is_client actor ≡ true
event-client head (actors.Range range) own other step named may = absurd may
event-client head (actors.Session number) own other step named may = refl
event-client head (actors.Recoverer number) own other step named may = refl

tell-client : (head : Head) (actor : ActorId) (own : List (Pair Event)) (named : Option (Entry Event)) → MayComeNext head actor own (events.Tell answers.NotYet) named → is_client actor ≡ true
tell-client head (actors.Range range) own named may = absurd may
tell-client head (actors.Session number) own named may = refl
tell-client head (actors.Recoverer number) own named may = refl

meet-asked : (head : Head) (actor : ActorId) (own : List (Pair Event)) (other : TxnId) (step : ℕ) (named : Option (Entry Event)) → MayComeNext head actor own (events.Meet other step) named → MayMeet (known_of own)
meet-asked head (actors.Range range) own other step named may = absurd may
meet-asked head (actors.Session number) own other step named may = may
meet-asked head (actors.Recoverer number) own other step named may = may

module _ (head : Head) (before : List (Entry Event)) (e : Entry Event) (later : List (Entry Event)) (run : IsRun head (before ++ e ∷ later)) (learns : LearnInOrder (client_pairs head (before ++ e ∷ later))) where
  front : IsRun head before
  front = run_front head before (e ∷ later) run

  may : MayFollow (protocol head) before e
  may = run_may head before e later run

  abbrev named : Option (Entry Event)
  named = named_in (protocol head) before e.event

  abbrev then : Known
  then = known_at head e.actor before

  -- what the order says of the entry
  learns-here : is_client e.actor ≡ true → (id : TxnId) → call_of then ≡ Some (calls.Learn id) → LearnsOf id then (client_pairs head before) e.event
  learns-here client =
      let split = clients-split head before e later client in
      let here : LearnsNext (client_pairs head before) (pair e named) = each_at LearnsNext [] (client_pairs head before) (pair e named) split.0 (subst LearnInOrder split.1 learns) in
      let same : known_of (share_of e.actor (client_pairs head before)) ≡ then = ap known_of (share_is_own e.actor client (pairs_of (protocol head) before)) in
      subst (λ (k : Known). (id : TxnId) → call_of k ≡ Some (calls.Learn id) → LearnsOf id k (client_pairs head before) e.event) same here

  -- whoever was told of a commit, its session was
  owner-told : (id : TxnId) → WasCommitTold id before → WasCommitTold id (entries_of (entries_by id.session (client_pairs head before)))
  owner-told id (at, x, there, is, tells) =
      let whose : x.actor ≡ actors.Session id.session = told_by_owner head before front x (at, there, is) id tells in
      let mine = contains-own (protocol head) before x (at, there, is) in
      let own_has : Contains (own (protocol head) (actors.Session id.session) before) mine.0 = subst (λ a. Contains (own (protocol head) a before) mine.0) whose mine.1 in
      let among : Contains (entries_by id.session (client_pairs head before)) mine.0 = subst (λ ps. Contains ps mine.0) (sym (share_is_own (actors.Session id.session) refl (pairs_of (protocol head) before))) own_has in
      let c : Contains (entries_of (entries_by id.session (client_pairs head before))) x =
      subst (λ y. Contains (entries_of (entries_by id.session (client_pairs head before))) y) mine.2 (contains_map (λ (p : Pair Event). p.entry) (entries_by id.session (client_pairs head before)) mine.0 among) in
      (c.0, x, c.1, c.2, tells)

  truly-by : (event : Event) → e.event ≡ event → MayComeNext head e.actor (own (protocol head) e.actor before) event named → LearnsTruly then before event
  truly-by (events.Meet other step) is next =
      let asked = meet-asked head e.actor (own (protocol head) e.actor before) other step named next in
      let here : LearnsOf asked.id then (client_pairs head before) (events.Meet other step) =
      subst (λ ev. LearnsOf asked.id then (client_pairs head before) ev) is (learns-here (event-client head e.actor (own (protocol head) e.actor before) other step named next) asked.id asked.asked) in
      (asked.asked ∙ ap (λ i. Some (calls.Learn i)) (sym here.0), here.1)
  truly-by (events.Tell answers.NotYet) is next = λ id asked told.
      let here : LearnsOf id then (client_pairs head before) (events.Tell answers.NotYet) =
      subst (λ ev. LearnsOf id then (client_pairs head before) ev) is (learns-here (tell-client head e.actor (own (protocol head) e.actor before) named next) id asked) in
      here (owner-told id told)
  truly-by event is next = tt

  learns-truly : LearnsTruly then before e.event
  learns-truly = truly-by e.event refl may.local.next

pub all_learn_truly : (head : Head) (history : List (Entry Event)) → IsRun head history → LearnInOrder (client_pairs head history) → AllLearnTruly head history
all_learn_truly head history run learns before e later whole =
    learns-truly head before e later (subst (IsRun head) whole run) (subst (λ h. LearnInOrder (client_pairs head h)) whole learns)
