-- What a coordinator's transaction and counts are after its session sent and heard messages beside it.
use Rattle.std.proofs.Common.{◌≡◌, ◌+◌, ◌≤◌, Bool, true, false, ◌⊎◌, inl, inr, List, [], ◌∷◌, ◌++◌, length, Option, Some, None, IfSome, refl, sym, ap, ◌∙◌, subst, arith, All, IsTrue, length-append}
use Rattle.std.proofs.lemmas.List.Elements.{All-append, All-cons, All-head, All-nil, All-tail, All-weaker}
use Rattle.std.proofs.lemmas.Option.{same_Some}
use Rattle.pc_base.specs.declared.transaction.TxnId.{TxnId}
use Rattle.pc_base.specs.Rising.{AreRising}
use Rattle.pc_call.proofs.Facts.{open_is}
use Rattle.pc_call.specs.Outbox.{MayWait}
use Rattle.pc_call.specs.Telling.{StandsOpen}
use Rattle.pc_coord.proofs.Counting.{all_heard-more, all_own-more, heard_low-more, sent_low-more}
use Rattle.pc_coord.proofs.Outbox.{between_beside, still_heard}
use Rattle.pc_coord.proofs.Ranged.{ranged-beside}
use Rattle.pc_coord.specs.Beside.{IsBeside, IsLaterBeside}
use Rattle.pc_coord.specs.Coordination.{Coordination, with_clock}
use Rattle.pc_coord.specs.declared.due.Due.TheVariants as dues
use Rattle.pc_coord.specs.Knows.{IsHeardBesideOrPut, IsHeld, IsOutboxOf, KeepsCourse, Knows, KnowsAt, MayFinishJob, Rests}
use Rattle.pc_coord.specs.Laws.{CoordinatingGoesOn}
use Rattle.pc_coord.specs.Ranged.{IsRanged}
use Rattle.pc_proto.specs.declared.request.Request.{Request}
use Rattle.pc_proto.specs.declared.request.Request.TheVariants as requests
use Rattle.pc_proto.specs.Requests.{is_about, is_commit, is_put, is_stage}
use Rattle.pc_proto.specs.Stamps.{request_stamps, why_stamps}
use Rattle.pc_txn.proofs.Keeping.{IsAside, commit_leaves, quiet_leaves, stands_aside}
use Rattle.pc_txn.specs.Counted.{IsCounted, IsOwn, IsOwnHeard, IsOwnSent}
use Rattle.pc_txn.specs.declared.txn.OpenTxn.{OpenTxn}
use Rattle.pc_txn.specs.Standing.{HasMovedOn, LeavesAsIs, TxnStands, is_plain, is_query_of}
use Rattle.pc_wave.specs.Standing.{HasMore, goes_beside}
use Rattle.pc_world.specs.Known.{Known, first_if}
use Rattle.pc_world.specs.Known.Traffic.{Heard, Sent}
use Rattle.pc_world.specs.Known.Transactions.{Txn}
use Rattle.pc_world.specs.StageFate.{SentCommit}
use Rattle.pc_world.specs.Tell.Refusal.{is_heard}

all_both : {X : Type 0} (P Q R : X → Type 0) → ((x : X) → P x → Q x → R x) → (xs : List X) → All P xs → All Q xs → All R xs
all_both P Q R on [] p q = All-nil R
all_both P Q R on (x ∷ xs) p q = All-cons R x xs (on x (All-head P x xs p) (All-head Q x xs q)) (all_both P Q R on xs (All-tail P x xs p) (All-tail Q x xs q))

plain-beside : (request : Request) → goes_beside request ≡ true → is_plain request ≡ true
plain-beside (requests.Put meta seq ts key value) e = absurd cc
plain-beside (requests.Stage meta ts now writes locks) e = absurd cc
plain-beside (requests.Commit meta ts locks) e = absurd cc
plain-beside (requests.Beat meta ts now) e = absurd cc
plain-beside request e = refl

no_put-beside : (request : Request) → goes_beside request ≡ true → is_put request ≡ false
no_put-beside (requests.Put meta seq ts key value) e = absurd cc
no_put-beside request e = refl

no_put-commit : (request : Request) → is_commit request ≡ true → is_put request ≡ false
no_put-commit (requests.Put meta seq ts key value) e = absurd cc
no_put-commit request e = refl

no_stage-beside : (request : Request) → goes_beside request ≡ true → is_stage request ≡ false
no_stage-beside (requests.Stage meta ts now writes locks) e = absurd cc
no_stage-beside request e = refl

no_stage-commit : (request : Request) → is_commit request ≡ true → is_stage request ≡ false
no_stage-commit (requests.Stage meta ts now writes locks) e = absurd cc
no_stage-commit request e = refl

module _ (c : Coordination) (start : Known) where
  -- what goes beside puts nothing, and stages nothing
  no_put : (request : Request) → IsBeside c start request → is_put request ≡ false
  no_put request is = elim is.kind [ inl beside ↦ no_put-beside request beside | inr commits ↦ no_put-commit request commits.1 ]

  pub no_stage : (request : Request) → IsBeside c start request → is_stage request ≡ false
  no_stage request is = elim is.kind [ inl beside ↦ no_stage-beside request beside | inr commits ↦ no_stage-commit request commits.1 ]

  aside : (id : TxnId) (request : Request) → IsBeside c start request → is_about id request ≡ false → IsAside id request
  aside id request is other = elim is.kind [ inl beside ↦ inl (plain-beside request beside) | inr commits ↦ inr (commits.1, other) ]

module _ {loses : Bool} (c : Coordination) (start k : Known) (later : IsLaterBeside loses c start k) where
  longer : length start.sent ≤ length k.sent
  longer = omega (arith, length-append start.sent later.sent_more, ap length later.sent)

  -- the counts are as before, and the clock has heard more
  pub counted-beside : IsCounted c.session c.clock c.begun start → IsCounted c.session k.high c.begun k
  counted-beside counted =
      let n = length k.sent in
      let begun : c.begun ≡ k.begun = counted.begun ∙ sym later.begun in
      let low : start.begun ≤ k.begun = omega (arith, later.begun) in
      let sent : All (IsOwnSent c.session k.begun n) (start.sent ++ later.sent_more) =
      All-append (IsOwnSent c.session k.begun n) start.sent later.sent_more
      (all_own-more c.session start.begun k.begun (length start.sent) n start.sent low longer counted.sent)
      (all_both (λ m. IsBeside c start m.request) (λ m. m.number ≤ n) (IsOwnSent c.session k.begun n)
      (λ m is low. record { numbered = low; own = subst (λ n. IsOwn c.session n m.request) begun is.own }) later.sent_more later.sent_beside later.sent_numbers) in
      let heard : All (IsOwnHeard c.session k.begun n) (start.heard ++ later.heard_more) =
      All-append (IsOwnHeard c.session k.begun n) start.heard later.heard_more
      (all_heard-more c.session start.begun k.begun (length start.sent) n start.heard low longer counted.heard)
      (all_both (λ h. IsBeside c start h.request) (λ h. h.number ≤ n) (IsOwnHeard c.session k.begun n)
      (λ h is low. record { numbered = low; own = subst (λ n. IsOwn c.session n h.request) begun is.own }) later.heard_more later.heard_beside later.heard_numbers) in
      let S : Sent → Type 0 = λ m. All (λ ts. ts ≤ k.top) (request_stamps m.request) in
      let H : Heard → Type 0 = λ h. All (λ ts. ts ≤ k.top) (request_stamps h.request) in
      record {
        clock = refl;
        below = later.below;
        begun = begun;
        sent = subst (λ sent. All (IsOwnSent c.session k.begun n) sent) (sym later.sent) sent;
        heard = subst (λ heard. All (IsOwnHeard c.session k.begun n) heard) (sym later.heard) heard;
        sent_low = subst (λ ms. All S ms) (sym later.sent) (All-append S start.sent later.sent_more (sent_low-more start.top k.top start.sent later.top counted.sent_low) later.sent_low);
        heard_low = subst (λ hs. All H hs) (sym later.heard) (All-append H start.heard later.heard_more (heard_low-more start.top k.top start.heard later.top counted.heard_low) later.heard_low);
      }

  pub more-beside : HasMore start k later.sent_more later.heard_more
  more-beside = record { sent = later.sent; sent_now = later.sent_now; heard = later.heard; heard_now = later.heard_now }

  sent_puts : All (λ m. is_put m.request ≡ false) later.sent_more
  sent_puts = All-weaker (λ m. IsBeside c start m.request) (λ m. is_put m.request ≡ false) (λ m is. no_put c start m.request is) later.sent_more later.sent_beside

  heard_puts : All (λ h. is_put h.request ≡ false) later.heard_more
  heard_puts = All-weaker (λ h. IsBeside c start h.request) (λ h. is_put h.request ≡ false) (λ h is. no_put c start h.request is) later.heard_more later.heard_beside

  unstaged-beside : (b : Bool) → (b ≡ false → All (λ m. is_stage m.request ≡ false) start.sent) → b ≡ false → All (λ m. is_stage m.request ≡ false) k.sent
  unstaged-beside b none is =
      subst (λ ms. All (λ (m : Sent). is_stage m.request ≡ false) ms) (sym later.sent)
      (All-append (λ (m : Sent). is_stage m.request ≡ false) start.sent later.sent_more (none is) (All-weaker (λ m. IsBeside c start m.request) (λ m. is_stage m.request ≡ false) (λ m is. no_stage c start m.request is) later.sent_more later.sent_beside))

  -- what holds at any time holds still
  pub course-beside : (now : Coordination) → now.tries ≡ c.tries → now.splits ≡ c.splits → now.pipelining ≡ c.pipelining → now.later ≡ c.later → KeepsCourse loses c start → KeepsCourse loses now k
  course-beside now tries splits pipelining later_is o = record {
    tried = subst (λ n. 1 ≤ n) (sym tries) o.tried;
    rising = subst AreRising (sym splits) o.rising;
    ranged = subst (λ s. IsRanged s k) (sym splits) (ranged-beside c c.splits start k later o.ranged);
    one_range = later.one_range;
    may_wait = subst (λ l. MayWait now.pipelining l) (sym later_is) (subst (λ b. MayWait b c.later) (sym pipelining) o.may_wait);
    unstaged = λ is. unstaged-beside c.pipelining o.unstaged (sym pipelining ∙ is);
  }

  module _ (opened : start.statement ≡ None → ⊥) where
    goes : (request : Request) → IsBeside c start request → goes_beside request ≡ true
    goes request is = elim is.kind [ inl beside ↦ beside | inr commits ↦ absurd (opened commits.0) ]

    pub sent_goes-beside : All (λ m. IsTrue (goes_beside m.request)) later.sent_more
    sent_goes-beside = All-weaker (λ m. IsBeside c start m.request) (λ m. IsTrue (goes_beside m.request)) (λ m is. goes m.request is) later.sent_more later.sent_beside

    pub heard_goes-beside : All (λ h. IsTrue (goes_beside h.request)) later.heard_more
    heard_goes-beside = All-weaker (λ h. IsBeside c start h.request) (λ h. IsTrue (goes_beside h.request)) (λ h is. goes h.request is) later.heard_more later.heard_beside

  module _ (x : OpenTxn) (held : c.txn ≡ Some x) where
    -- nothing more was heard of the record of the open transaction
    pub other-beside : All (λ h. is_about x.id h.request ≡ false) later.heard_more
    other-beside = All-weaker (λ h. IsBeside c start h.request) (λ h. is_about x.id h.request ≡ false) (λ h is. is.other x held) later.heard_more later.heard_beside

    -- nor was one of its writes asked for
    pub unqueried-beside : All (λ h. is_query_of x.id h.request ≡ false) later.heard_more
    unqueried-beside = All-weaker (λ h. IsBeside c start h.request) (λ h. is_query_of x.id h.request ≡ false) (λ h is. is.unqueried x held) later.heard_more later.heard_beside

    pub unasked-beside : All (λ m. is_query_of x.id m.request ≡ false) later.sent_more
    unasked-beside = All-weaker (λ m. IsBeside c start m.request) (λ m. is_query_of x.id m.request ≡ false) (λ m is. is.unqueried x held) later.sent_more later.sent_beside

    leaves-beside : (t : Txn) → x.id ≡ t.id → (h : Heard) → IsBeside c start h.request → LeavesAsIs t h
    leaves-beside t same h is =
        let isnt : is_about t.id h.request ≡ false = subst (λ id. is_about id h.request ≡ false) same (is.other x held) in
        let unasked : is_query_of t.id h.request ≡ false = subst (λ id. is_query_of id h.request ≡ false) same (is.unqueried x held) in
        elim is.kind [ inl beside ↦ quiet_leaves t h (plain-beside h.request beside) unasked isnt | inr commits ↦ commit_leaves t h commits.1 isnt ]

    -- the open transaction stands on
    pub stands-beside : (out : Option SentCommit) (t : Txn) → TxnStands start [] out t x → TxnStands k [] out t x
    stands-beside out t st =
        let same : x.id ≡ t.id = ap (λ x. x.id) st.same in
        let on : HasMovedOn start k later.sent_more later.heard_more = record { sent = later.sent; heard = later.heard; begun = omega (arith, later.begun); high = later.high } in
        stands_aside start k [] out t x later.sent_more later.heard_more st on
        (All-weaker (λ m. IsBeside c start m.request) (λ m. IsAside t.id m.request) (λ m is. aside c start t.id m.request is (subst (λ id. is_about id m.request ≡ false) same (is.other x held))) later.sent_more later.sent_beside)
        (All-weaker (λ h. IsBeside c start h.request) (LeavesAsIs t) (leaves-beside t same) later.heard_more later.heard_beside)

    open_first : (b : Bool) (ts : List Txn) (t : Txn) → first_if b ts ≡ Some t → (others : List Txn) × (b ≡ true) × (ts ≡ t ∷ others)
    open_first true [] t e = absurd cc
    open_first true (u ∷ ts) t e = (ts, refl, ap (λ t. t ∷ ts) (same_Some u t e))
    open_first false [] t e = absurd cc
    open_first false (u ∷ ts) t e = absurd cc

    open-beside : StandsOpen start x → StandsOpen k x
    open-beside o =
        let f = open_first k.is_open k.txns o.t (later.txns.first ∙ open_is start o.t o.open_in) in
        record {
          t = o.t;
          open_in = record { others = f.0; is_open = f.1; first = f.2 };
          stands = stands-beside None o.t o.stands;
          cause = o.cause;
          low = All-weaker (λ ts. ts ≤ start.top + 1) (λ ts. ts ≤ k.top + 1) (λ ts low. omega (arith, low, later.top)) (why_stamps x.cause) o.low;
        }

  held_by-beside : (txn : Option OpenTxn) → c.txn ≡ txn → IsHeld txn start → IsHeld txn k
  held_by-beside None none closed = later.is_open ∙ closed
  held_by-beside (Some x) is o = open-beside x is o

  outbox-beside : (txn : Option OpenTxn) → IsOutboxOf loses txn c.later start → IsOutboxOf loses txn c.later k
  outbox-beside None o =
      let P : Sent → Type 0 = IsHeardBesideOrPut k in (
        o.0,
        λ quiet. subst (λ ms. All P ms) (sym later.sent)
            (All-append P start.sent later.sent_more (All-weaker (IsHeardBesideOrPut start) P (λ m was. still m was) start.sent (o.1 quiet))
            (All-weaker (λ m. (goes_beside m.request ≡ true) ⊎ IsTrue (is_heard k.heard m)) P (λ m is. elim is [ inl beside ↦ inr (inl beside) | inr was ↦ inl was ]) later.sent_more (later.sent_heard quiet))),
      )
    where
      still : (m : Sent) → IsHeardBesideOrPut start m → IsHeardBesideOrPut k m
      still m (inl was) = inl (still_heard m start.heard later.heard_more k.heard later.heard was)
      still m (inr (inl beside)) = inr (inl beside)
      still m (inr (inr put)) = inr (inr put)
  outbox-beside (Some x) o =
      between_beside start k later.sent_more later.heard_more more-beside later.txns.first x c.later sent_puts heard_puts later.heard_first later.sent_heard o

  -- between calls a coordinator with nothing left to hand out knows what its session knows
  goes_on : Knows loses c start → c.due ≡ dues.Nothing → c.job ≡ None → Knows loses (with_clock k.high c) k
  goes_on knows due job =
      let r : Rests loses c.session c.clock c.begun c.txn c.later c.job start = subst (λ d. KnowsAt loses c start d) due knows.stands in
      record {
        course = course-beside (with_clock k.high c) refl refl refl refl knows.course;
        stands = subst (λ d. KnowsAt loses (with_clock k.high c) k d) (sym due) (record {
          counted = counted-beside r.counted;
          none_open = later.statement ∙ r.none_open;
          held = held_by-beside c.txn refl r.held;
          outbox = outbox-beside c.txn r.outbox;
          left = subst (λ j. IfSome j (MayFinishJob k)) (sym job) tt;
        });
      }

pub coordinating_goes_on_ok : CoordinatingGoesOn
coordinating_goes_on_ok loses c start k knows due job later = goes_on c start k later knows due job
