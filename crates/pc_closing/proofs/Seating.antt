-- The ranges, then the sessions and then the recoverers take their seats.
use Rattle.std.proofs.Common.{◌≡◌, ℕ, zero, suc, ◌+◌, ◌-◌, ◌<◌, ◌≤◌, inl, inr, Bool, true, false, cond, nat_le, Contains, List, [], ◌∷◌, ◌++◌, length, refl, sym, ap, subst, ◌∙◌, arith, length-append}
use Rattle.std.proofs.lemmas.Bool.{false≢true}
use Rattle.std.proofs.lemmas.List.{append-nil, append_assoc}
use Rattle.std.proofs.lemmas.List.Elements.{Contains-append_cases, Contains-push_cases}
use Rattle.std.proofs.lemmas.List.Sums.{count_by-le-length, length-filter}
use Rattle.pc_base.specs.declared.actor.ActorId.{ActorId}
use Rattle.pc_base.specs.declared.actor.ActorId.TheVariants as actors
use Rattle.pc_closing.specs.Opening.{AreSeatedFor, IsSeatedFor, client_ids, seats_up_to}
use Rattle.pc_history.specs.Meanings.{ActorMeaning, OpenerMeaning}
use Rattle.pc_history.specs.Parts.{newcomer}
use Rattle.pc_lists.proofs.Lists.{contains_filter, contains_nil, get_push_cases}
use Rattle.pc_proto.specs.declared.event.Event.{Event}
use Rattle.pc_range.specs.Seats.{all_range_ids, is_range_there, range_ids}
use Rattle.pc_turns.proofs.Shares.{client_once}
use Rattle.pc_turns.specs.Clients.{is_client}
use Rattle.pc_turns.specs.Shares.{client_at}
use Rattle.pc_world.specs.Local.{Head}

pub one_more : (n : ℕ) → n + 1 ≡ suc n
one_more n = omega arith

-- one more client
pub next_client : (head : Head) (n : ℕ) → client_ids head (n + 1) ≡ client_ids head n ++ client_at head n ∷ []
next_client head n = ap (client_ids head) (one_more n)

-- none has a seat before its turn
pub client_within : (head : Head) (n m : ℕ) → Contains (client_ids head n) (client_at head m) → m < n
client_within head zero m c = absurd (contains_nil (client_at head m) c)
client_within head (suc n) m c = elim (Contains-push_cases (client_ids head n) (client_at head n) (client_at head m) c) [
  | inl earlier ↦ (let h : m < n = client_within head n m earlier in omega arith)
  | inr here ↦ (let same : n ≡ m = client_once head n m here in omega arith)
]

pub clients_many : (head : Head) (n : ℕ) → length (client_ids head n) ≡ n
clients_many head zero = refl
clients_many head (suc n) = length-append (client_ids head n) (client_at head n ∷ []) ∙ (let h = clients_many head n in omega arith)

-- a client stands at each index
kind_of : (b : Bool) (n m : ℕ) → is_client (cond b (actors.Recoverer n) (actors.Session m)) ≡ true
kind_of true n m = refl
kind_of false n m = refl

at_is_client : (head : Head) (index : ℕ) → is_client (client_at head index) ≡ true
at_is_client head index = kind_of (nat_le head.sessions index) (index - head.sessions + 1) (index + 1)

-- the ids of ranges are no clients'
pub range_no_client : (count : ℕ) (id : ActorId) → Contains (range_ids count) id → is_client id ≡ false
range_no_client count (actors.Range range) c = refl
range_no_client count (actors.Session number) c = absurd (false≢true (contains_filter (is_range_there count) all_range_ids (actors.Session number) c).1)
range_no_client count (actors.Recoverer number) c = absurd (false≢true (contains_filter (is_range_there count) all_range_ids (actors.Recoverer number) c).1)

pub ranges_few : (count : ℕ) → length (range_ids count) ≤ 32
ranges_few count = let few = count_by-le-length (is_range_there count) all_range_ids in omega (arith, length-filter (is_range_there count) all_range_ids)

-- The clients from an index on took their seats up to another one, behind all that were seated, and nothing else was done.
pub record AreSeatedUpTo (before now : OpenerMeaning Head Event) (seated : List (ActorMeaning Head Event)) (from done : ℕ) : Type 0 where
  pub opener : now ≡ record before { seated = seats_up_to before.world done }
  pub each : AreSeatedFor before.world from done seated

pub none_seated : (before : OpenerMeaning Head Event) (from : ℕ) → before.seated ≡ seats_up_to before.world from → AreSeatedUpTo before before [] from from
none_seated before from is = record {
  opener = ap (λ (ids : List ActorId). record before { seated = ids }) is;
  each = record { many = omega arith; each = λ index a at. absurd cc };
}

module _ (before now : OpenerMeaning Head Event) (seated : List (ActorMeaning Head Event)) (from done : ℕ) (so_far : AreSeatedUpTo before now seated from done) where
  seats : now.seated ≡ seats_up_to before.world done
  seats = ap (λ (o : OpenerMeaning Head Event). o.seated) so_far.opener

  pub same_world : now.world ≡ before.world
  same_world = ap (λ (o : OpenerMeaning Head Event). o.world) so_far.opener

  -- the next client has no seat yet
  pub next_free : (id : ActorId) → id ≡ client_at before.world done → Contains now.seated id → ⊥
  next_free id is c = elim (Contains-append_cases (range_ids (length before.world.splits + 1)) (client_ids before.world done) (client_at before.world done) (subst (λ l. Contains l (client_at before.world done)) seats (subst (Contains now.seated) is c))) [
    | inl range ↦ false≢true (sym (range_no_client (length before.world.splits + 1) (client_at before.world done) range) ∙ at_is_client before.world done)
    | inr client ↦ (let h : done < done = client_within before.world done done client in let no : ⊥ = omega arith in no)
  ]

  -- and there is room for it
  pub next_few : done < 65504 → length now.seated < 65536
  next_few few =
      let long : length now.seated ≡ length (range_ids (length before.world.splits + 1)) + length (client_ids before.world done) = ap length seats ∙ length-append (range_ids (length before.world.splits + 1)) (client_ids before.world done) in
      omega (arith, ranges_few (length before.world.splits + 1), clients_many before.world done)

  pub one_seated : (after : OpenerMeaning Head Event) (a : ActorMeaning Head Event) (id : ActorId) → id ≡ client_at before.world done → after ≡ record now { seated = after.seated } → after.seated ≡ now.seated ++ id ∷ [] → a.world ≡ now.world → a.part ≡ newcomer id
      → AreSeatedUpTo before after (seated ++ a ∷ []) from (done + 1)
  one_seated after a id is same more world part = record {
    opener = same
        ∙ (subst (λ (o : OpenerMeaning Head Event). record now { seated = after.seated } ≡ record o { seated = after.seated }) so_far.opener refl
        ∙ ap (λ (ids : List ActorId). record before { seated = ids }) grown);
    each = record {
      many = (let long = length-append seated (a ∷ []) in let many = so_far.each.many in omega arith);
      each = λ index x at. elim (get_push_cases seated a index x at) [
        | inl earlier ↦ so_far.each.each index x earlier
        | inr last ↦ subst (IsSeatedFor before.world (from + index)) last.1 (record {
          world = world ∙ same_world;
          part = part ∙ (ap newcomer is ∙ ap (λ n. newcomer (client_at before.world n)) (let many = so_far.each.many in let here : index ≡ length seated = last.0 in let at : done ≡ from + index = omega arith in at));
        })
      ];
    };
  }
    where
      grown : after.seated ≡ seats_up_to before.world (done + 1)
      grown =
          more
          ∙ (ap (λ l. l ++ id ∷ []) seats
          ∙ (append_assoc (range_ids (length before.world.splits + 1)) (client_ids before.world done) (id ∷ [])
          ∙ ap (λ l. range_ids (length before.world.splits + 1) ++ l) (ap (λ i. client_ids before.world done ++ i ∷ []) is ∙ sym (next_client before.world done))))

-- A history's beginning: the opener started, then the ranges took these seats, then the sessions, and then the recoverers.
module _ (ids : ℕ → List ActorId) (world : Head) (splits : List (List ℕ)) (sessions recoverers : ℕ) (first second : OpenerMeaning Head Event) (world_is : world ≡ record { splits = splits; sessions = sessions; recoverers = recoverers })
    (started : first ≡ record { world = world; seated = []; parts = []; whole = true }) (ranges : second ≡ record first { seated = first.seated ++ ids (length splits + 1) }) where
  by-ranges : second.seated ≡ ids (length splits + 1)
  by-ranges = ap (λ (o : OpenerMeaning Head Event). o.seated) ranges ∙ ap (λ (o : OpenerMeaning Head Event). o.seated ++ ids (length splits + 1)) started

  pub second_world : second.world ≡ world
  second_world = ap (λ (o : OpenerMeaning Head Event). o.world) ranges ∙ ap (λ (o : OpenerMeaning Head Event). o.world) started

  pub ranges_seated : second.seated ≡ ids (length second.world.splits + 1)
  ranges_seated =
      let same : second.world.splits ≡ splits = ap (λ (w : Head). w.splits) (second_world ∙ world_is) in
      by-ranges ∙ ap (λ (s : List (List ℕ)). ids (length s + 1)) (sym same)

  second-is : second ≡ record { world = world; seated = second.seated; parts = []; whole = true }
  second-is = ranges
      ∙ (ap (λ (o : OpenerMeaning Head Event). record o { seated = first.seated ++ ids (length splits + 1) }) started
      ∙ ap (λ (s : List ActorId). record { world = world; seated = s; parts = []; whole = true }) (sym (ap (λ (o : OpenerMeaning Head Event). o.seated) ranges)))

  pub second_sessions : second.world.sessions ≡ sessions
  second_sessions = ap (λ (w : Head). w.sessions) (second_world ∙ world_is)

  pub second_seats : (count : Head → ℕ → List ActorId) → ((head : Head) (n : ℕ) → count head n ≡ ids (length head.splits + 1) ++ client_ids head n) → second.seated ≡ count second.world 0
  second_seats count is = ranges_seated ∙ (sym (append-nil (ids (length second.world.splits + 1))) ∙ sym (is second.world 0))

  -- after the sessions
  module _ (third : OpenerMeaning Head Event) (seats : Head → ℕ → List ActorId) (seated : third ≡ record second { seated = seats second.world sessions }) where
    pub third_world : third.world ≡ second.world
    third_world = ap (λ (o : OpenerMeaning Head Event). o.world) seated

    pub third_seats : third.seated ≡ seats third.world sessions
    third_seats = ap (λ (o : OpenerMeaning Head Event). o.seated) seated ∙ ap (λ (w : Head). seats w sessions) (sym third_world)

    pub third_sessions : third.world.sessions ≡ sessions
    third_sessions = ap (λ (w : Head). w.sessions) third_world ∙ second_sessions

    -- and after the recoverers
    pub all_seated : (last : OpenerMeaning Head Event) → last ≡ record third { seated = seats third.world (sessions + recoverers) } → last ≡ record { world = world; seated = seats world (world.sessions + world.recoverers); parts = []; whole = true }
    all_seated last more =
        let many : world.sessions + world.recoverers ≡ sessions + recoverers = ap (λ (w : Head). w.sessions + w.recoverers) world_is in
        more
        ∙ (ap (λ (o : OpenerMeaning Head Event). record o { seated = seats third.world (sessions + recoverers) }) (seated ∙ ap (λ (o : OpenerMeaning Head Event). record o { seated = seats second.world sessions }) second-is)
        ∙ ap (λ (s : List ActorId). record { world = world; seated = s; parts = []; whole = true })
        (ap (λ (w : Head). seats w (sessions + recoverers)) (third_world ∙ second_world) ∙ ap (seats world) (sym many)))

    pub as_seated : (from to : ℕ) (list : List (ActorMeaning Head Event)) → AreSeatedFor third.world from to list → AreSeatedFor world from to list
    as_seated from to list h = subst (λ (w : Head). AreSeatedFor w from to list) (third_world ∙ second_world) h

  pub as_seated_first : (from to : ℕ) (list : List (ActorMeaning Head Event)) → AreSeatedFor second.world from to list → AreSeatedFor world from to list
  as_seated_first from to list h = subst (λ (w : Head). AreSeatedFor w from to list) second_world h
