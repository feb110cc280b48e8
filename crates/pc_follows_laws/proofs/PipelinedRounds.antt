-- What the rule of rounds says of a call's messages where writes are pipelined, kind by kind.
use Rattle.std.proofs.Common.{◌≡◌, ℕ, suc, ◌<◌, ◌≤◌, nat_lt, Bool, true, false, cond, ◌||◌, inl, inr, List, [], ◌∷◌, ◌++◌, Some, None, Option, drop, fold, filter, refl, sym, ap, ◌∙◌, subst, arith, All, AllPairs, Contains}
use Rattle.std.proofs.lemmas.Bool.{ltb-false, ltb-true}
use Rattle.std.proofs.lemmas.List.Elements.{All-cons, All-contains, All-drop, All-head, All-nil, All-tail, All-weaker, Contains-append_right}
use Rattle.std.proofs.lemmas.List.Sums.{fold-append}
use Rattle.std.proofs.lemmas.List.Kept.{AllPairs-cons}
use Rattle.std.proofs.lemmas.Option.{none-some}
use Rattle.pc_base.specs.declared.transaction.TxnId.{TxnId}
use Rattle.pc_follows.specs.Heartbeats.{is_heartbeat}
use Rattle.pc_follows.specs.NextBlock.{IsAtItsEighth, IsNextConflict}
use Rattle.pc_follows.specs.OwnStages.{refuses_stage}
use Rattle.pc_follows.specs.PipelinedRounds.{IsInNextTurn, MayGoOn}
use Rattle.pc_follows.specs.RoundOrder.{goes_first, is_earlier_piece, is_lower_put, with_waiting}
use Rattle.pc_follows.specs.Rounds.{conflicts_now}
use Rattle.pc_follows.specs.RoundsMade.{RoundCount, all_passed, gone_on, is_open_one, no_rounds, one_over, rounds_after, rounds_by, rounds_made, with_conflict}
use Rattle.pc_follows_laws.specs.PipelinedRounds.{ConflictsWait, NoRoundOnceOver, NoRoundUnmet, NothingBehindTheEighth, PushesMeetTheNext, ResolvesMeetTheNext, WaitingWereMet, WritesWaitBySequence}
use Rattle.pc_lists.proofs.Lists.{all_from_contains, contains_get, contains_head, contains_nil, contains_tail}
use Rattle.pc_proto.specs.declared.meta.TxnMeta.{TxnMeta}
use Rattle.pc_proto.specs.declared.reply.Reply.{Reply}
use Rattle.pc_proto.specs.declared.reply.Reply.TheVariants as replies
use Rattle.pc_proto.specs.declared.request.Request.{Request}
use Rattle.pc_proto.specs.declared.request.Request.TheVariants as requests
use Rattle.pc_proto.specs.Replies.{is_conflict}
use Rattle.pc_proto.specs.Requests.{round_of}
use Rattle.pc_proto.specs.Views.{is_final_view}
use Rattle.pc_world.specs.Known.{Known, open_txn}
use Rattle.pc_world.specs.Known.Traffic.{Heard}
use Rattle.pc_world.specs.Known.Transactions.{Txn}

-- ---- what waits

-- What holds of each list that waits holds of what one more reply makes of it, where it holds of the list without its first, and of none.
module _ (P : List Heard → Type 0) (none : P []) (dropped : (hs : List Heard) → P hs → P (drop 1 hs)) where
  by_cond : (b : Bool) (one other : RoundCount) → P one.waiting → P other.waiting → P (cond b one other).waiting
  by_cond true one other p q = p
  by_cond false one other p q = q

  waiting_by : (opened : Option Txn) (h : Heard) (q : Request) (a : Reply) (r : RoundCount) → P r.waiting → P (rounds_by opened h q a r).waiting
  waiting_by opened h (requests.Push _ _ _ _ _) a r p = p
  waiting_by opened h (requests.Recover id epoch ts anchor finding) (replies.Status view) r p = by_cond (is_final_view view) (record r { recovered = Some view }) (one_over r) p (dropped r.waiting p)
  waiting_by opened h (requests.Resolve id key fate) replies.Resolved r p = dropped r.waiting p
  waiting_by opened h (requests.Query id epoch seq ts key by) replies.Found r p = by_cond (is_open_one opened id) (one_over r) r (dropped r.waiting p) p
  waiting_by opened h (requests.Stage meta ts now writes locks) a r p = by_cond (refuses_stage (requests.Stage meta ts now writes locks) a) (all_passed r) (gone_on r) none p
  waiting_by opened h q a r p = p

module _ (P : Heard → Type 0) where
  all_waiting : (h : Heard) (ws : List Heard) → P h → All P ws → All P (with_waiting h ws)
  all_waiting h [] p a = All-cons P h [] p (All-nil P)
  all_waiting h (w ∷ ws) p a = by (goes_first h.request w.request) (all_waiting h ws p (All-tail P w ws a))
    where
      by : (b : Bool) → All P (with_waiting h ws) → All P (cond b (h ∷ w ∷ ws) (w ∷ with_waiting h ws))
      by true later = All-cons P h (w ∷ ws) p a
      by false later = All-cons P w (with_waiting h ws) (All-head P w ws a) later

  all_rest : (hs : List Heard) → All P hs → All P (drop 1 hs)
  all_rest hs a = All-drop P 1 hs a

  all_after : (opened : Option Txn) (h : Heard) (r : RoundCount) → (is_conflict h.reply ≡ true → P h) → All P r.waiting → All P (rounds_after opened r h).waiting
  all_after opened h r new a = waiting_by (All P) (All-nil P) all_rest opened h h.request h.reply (with_conflict h r) (by (is_conflict h.reply) refl)
    where
      by : (b : Bool) → is_conflict h.reply ≡ b → All P (cond b (with_waiting h r.waiting) r.waiting)
      by true is = all_waiting h r.waiting (new is) a
      by false is = a

  -- what holds of each conflict that is heard holds of each that waits
  all_made : (opened : Option Txn) (hs : List Heard) (r : RoundCount) → All P (filter (λ h. is_conflict h.reply) hs) → All P r.waiting → All P (fold (rounds_after opened) r hs).waiting
  all_made opened [] r each a = a
  all_made opened (h ∷ hs) r each a = by (is_conflict h.reply) refl each (λ later new. all_made opened hs (rounds_after opened r h) later (all_after opened h r new a))
    where
      by : (b : Bool) → is_conflict h.reply ≡ b → All P (cond b (h ∷ filter (λ h. is_conflict h.reply) hs) (filter (λ h. is_conflict h.reply) hs))
          → (All P (filter (λ h. is_conflict h.reply) hs) → (is_conflict h.reply ≡ true → P h) → All P (fold (rounds_after opened) (rounds_after opened r h) hs).waiting)
          → All P (fold (rounds_after opened) (rounds_after opened r h) hs).waiting
      by true is each on = on (All-tail P h (filter (λ h. is_conflict h.reply) hs) each) (λ e. All-head P h (filter (λ h. is_conflict h.reply) hs) each)
      by false is each on = on each (λ e. absurd cc)

pub waiting_were_met : WaitingWereMet
waiting_were_met k =
    all_made (Contains (conflicts_now k)) (open_txn k) k.heard_now no_rounds
    (all_from_contains (Contains (conflicts_now k)) (conflicts_now k) (λ h there. there)) (All-nil (Contains (conflicts_now k)))

waiting_has : (h : Heard) (ws : List Heard) → Contains (with_waiting h ws) h
waiting_has h [] = contains_head h []
waiting_has h (w ∷ ws) = by (goes_first h.request w.request) (waiting_has h ws)
  where
    by : (b : Bool) → Contains (with_waiting h ws) h → Contains (cond b (h ∷ w ∷ ws) (w ∷ with_waiting h ws)) h
    by true later = contains_head h (w ∷ ws)
    by false later = contains_tail w (with_waiting h ws) h later

-- a conflict ends no round
conflict_by : (opened : Option Txn) (h : Heard) (q : Request) (holder : TxnMeta) (ts : ℕ) (key : List ℕ) (r : RoundCount) → (rounds_by opened h q (replies.Conflict holder ts key) r).waiting ≡ r.waiting
conflict_by opened h (requests.Push _ _ _ _ _) holder ts key r = refl
conflict_by opened h (requests.Recover _ _ _ _ _) holder ts key r = refl
conflict_by opened h (requests.Resolve _ _ _) holder ts key r = refl
conflict_by opened h (requests.Query _ _ _ _ _ _) holder ts key r = refl
conflict_by opened h q holder ts key r = refl

conflict_after : (opened : Option Txn) (h : Heard) (r : RoundCount) → is_conflict h.reply ≡ true → (rounds_after opened r h).waiting ≡ with_waiting h r.waiting
conflict_after opened h r is =
    by h.reply is ∙ ap (λ b. cond b (with_waiting h r.waiting) r.waiting) is
  where
    by : (reply : Reply) → is_conflict reply ≡ true → (rounds_by opened h h.request reply (with_conflict h r)).waiting ≡ (with_conflict h r).waiting
    by (replies.Conflict holder ts key) is = conflict_by opened h h.request holder ts key (with_conflict h r)
    by reply is = absurd cc

pub conflicts_wait : ConflictsWait
conflicts_wait k before h whole is =
    let last : rounds_made k ≡ rounds_after (open_txn k) (fold (rounds_after (open_txn k)) no_rounds before) h =
    ap (λ hs. fold (rounds_after (open_txn k)) no_rounds hs) whole ∙ fold-append (rounds_after (open_txn k)) no_rounds before (h ∷ []) in
    let r : RoundCount = fold (rounds_after (open_txn k)) no_rounds before in
    subst (λ ws. Contains ws h) (sym (ap (λ (r : RoundCount). r.waiting) last ∙ conflict_after (open_txn k) h r is)) (waiting_has h r.waiting)

-- ---- in which order

abbrev IsNotBefore : Heard → Heard → Type 0
IsNotBefore one later = is_lower_put later.request one.request ≡ false

piece_no_put : (one other : Request) → is_earlier_piece one other ≡ true → (third : Request) → is_lower_put third one ≡ false
piece_no_put (requests.Scan id epoch seq ts span) other is third = no_put third
  where
    no_put : (third : Request) → is_lower_put third (requests.Scan id epoch seq ts span) ≡ false
    no_put (requests.Put meta at time key value) = refl
    no_put third = refl
piece_no_put one other is third = absurd cc

not_less : (n m : ℕ) → m ≤ n → nat_lt n m ≡ false
not_less n m low = by (nat_lt n m) refl
  where
    by : (b : Bool) → nat_lt n m ≡ b → nat_lt n m ≡ false
    by true is = let less : n < m = ltb-true n m is in absurd (omega arith)
    by false is = is

-- a write that is not before a later one is not before an earlier one
put_order : (one other third : Request) → is_lower_put one other ≡ true → is_lower_put third other ≡ false → is_lower_put third one ≡ false
put_order (requests.Put meta seq ts key value) (requests.Put later_meta later later_ts later_key later_value) third is not_before = by third not_before
  where
    by : (third : Request) → is_lower_put third (requests.Put later_meta later later_ts later_key later_value) ≡ false → is_lower_put third (requests.Put meta seq ts key value) ≡ false
    by (requests.Put third_meta number third_ts third_key third_value) not_before =
        let less : seq < later = ltb-true seq later is in
        let high : later ≤ number = ltb-false number later not_before in
        not_less number seq (omega arith)
    by third not_before = refl
put_order (requests.Put meta seq ts key value) other third is not_before = absurd cc
put_order one other third is not_before = absurd cc

first_order : (one other third : Request) → goes_first one other ≡ true → is_lower_put third other ≡ false → is_lower_put third one ≡ false
first_order one other third is not_before = by (is_lower_put one other) refl
  where
    by : (b : Bool) → is_lower_put one other ≡ b → is_lower_put third one ≡ false
    by true put = put_order one other third put not_before
    by false put = piece_no_put one other (sym (ap (λ b. b || is_earlier_piece one other) put) ∙ is) third

first_no_put : (one other : Request) → goes_first one other ≡ false → is_lower_put one other ≡ false
first_no_put one other is = by (is_lower_put one other) refl
  where
    by : (b : Bool) → is_lower_put one other ≡ b → is_lower_put one other ≡ false
    by true put = absurd (let e : true ≡ false = sym (ap (λ b. b || is_earlier_piece one other) put) ∙ is in cc)
    by false put = put

pairs_tail : {X : Type 0} (R : X → X → Type 0) (x : X) (xs : List X) → AllPairs R (x ∷ xs) → All (R x) xs × AllPairs R xs
pairs_tail R x xs p = ((λ j d there. p 0 (suc j) d (omega arith) (omega arith)), (λ i j d low there. p (suc i) (suc j) d (omega arith) (omega arith)))

pairs_rest : {X : Type 0} (R : X → X → Type 0) (xs : List X) → AllPairs R xs → AllPairs R (drop 1 xs)
pairs_rest R [] p = p
pairs_rest R (x ∷ xs) p = (pairs_tail R x xs p).1

not_itself : (r : Request) → is_lower_put r r ≡ false
not_itself (requests.Put meta seq ts key value) = not_less seq seq (omega arith)
not_itself r = refl

ordered_waiting : (h : Heard) (ws : List Heard) → AllPairs IsNotBefore ws → AllPairs IsNotBefore (with_waiting h ws)
ordered_waiting h [] p = AllPairs-cons IsNotBefore h [] (All-nil (IsNotBefore h)) p
ordered_waiting h (w ∷ ws) p = by (goes_first h.request w.request) refl (ordered_waiting h ws (pairs_tail IsNotBefore w ws p).1)
  where
    by : (b : Bool) → goes_first h.request w.request ≡ b → AllPairs IsNotBefore (with_waiting h ws) → AllPairs IsNotBefore (cond b (h ∷ w ∷ ws) (w ∷ with_waiting h ws))
    by true first later =
        let of_w : All (IsNotBefore w) ws = (pairs_tail IsNotBefore w ws p).0 in
        AllPairs-cons IsNotBefore h (w ∷ ws)
        (All-cons (IsNotBefore h) w ws (first_order h.request w.request w.request first (not_itself w.request))
        (All-weaker (IsNotBefore w) (IsNotBefore h) (λ v not_before. first_order h.request w.request v.request first not_before) ws of_w)) p
    by false first later =
        AllPairs-cons IsNotBefore w (with_waiting h ws) (all_waiting (IsNotBefore w) h ws (first_no_put h.request w.request first) (pairs_tail IsNotBefore w ws p).0) later

ordered_after : (opened : Option Txn) (hs : List Heard) (r : RoundCount) → AllPairs IsNotBefore r.waiting → AllPairs IsNotBefore (fold (rounds_after opened) r hs).waiting
ordered_after opened [] r p = p
ordered_after opened (h ∷ hs) r p =
    ordered_after opened hs (rounds_after opened r h)
    (waiting_by (AllPairs IsNotBefore) no_pairs (pairs_rest IsNotBefore) opened h h.request h.reply (with_conflict h r) (by (is_conflict h.reply)))
  where
    no_pairs : AllPairs IsNotBefore []
    no_pairs i j d low there = absurd (omega arith)

    by : (b : Bool) → AllPairs IsNotBefore (cond b (with_waiting h r.waiting) r.waiting)
    by true = ordered_waiting h r.waiting p
    by false = p

pub writes_wait_by_sequence : WritesWaitBySequence
writes_wait_by_sequence k = ordered_after (open_txn k) k.heard_now no_rounds (λ i j d low there. absurd (omega arith))

-- ---- what goes out

pub pushes_meet_the_next : PushesMeetTheNext
pushes_meet_the_next k s number range holder by level now goal asked keeps = let begins = keeps s asked in (begins.key, begins.next)

-- the next conflict is one that this call met
next_met : (k : Known) (holder : TxnMeta) (key : List ℕ) (next : IsNextConflict k holder key) → Contains (conflicts_now k) next.conflict
next_met k holder key next =
    All-head (Contains (conflicts_now k)) next.conflict next.later (subst (λ ws. All (Contains (conflicts_now k)) ws) next.waits (waiting_were_met k))

pub resolves_meet_the_next : ResolvesMeetTheNext
resolves_meet_the_next k s number range id key fate asked keeps =
    let round = (keeps s asked).round in
    let at = contains_get (conflicts_now k) round.next.conflict (next_met k round.holder key round.next) in
    record {
      place = at.0;
      holder = round.holder;
      met = record { conflict = round.next.conflict; ts = round.next.ts; placed = at.1; met = round.next.met };
      whose = round.whose;
    }

-- A message of a round is of the next conflict.
of_next : (k : Known) (request : Request) (id : TxnId) → round_of request ≡ Some id → IsInNextTurn k request → (holder : TxnMeta) × (key : List ℕ) × IsNextConflict k holder key
of_next k (requests.Push holder by level now goal) id is turn = (holder, turn.key, turn.next)
of_next k (requests.Resolve of key fate) id is turn = (turn.round.holder, key, turn.round.next)
of_next k (requests.Query of epoch seq ts key by) id is (inl own) = (own.1.block.meta, own.1.block.key, own.1.block.next)
of_next k (requests.Query of epoch seq ts key by) id is (inr turn) = (turn.round.holder, turn.key, turn.round.next)
of_next k (requests.Recover of epoch ts anchor finding) id is turn = (turn.round.holder, turn.key, turn.round.next)
of_next k (requests.Get _ _ _ _ _) id is turn = absurd (none-some id is)
of_next k (requests.Scan _ _ _ _ _) id is turn = absurd (none-some id is)
of_next k (requests.Put _ _ _ _ _) id is turn = absurd (none-some id is)
of_next k (requests.Refresh _ _ _ _) id is turn = absurd (none-some id is)
of_next k (requests.Beat _ _ _) id is turn = absurd (none-some id is)
of_next k (requests.Stage _ _ _ _ _) id is turn = absurd (none-some id is)
of_next k (requests.Commit _ _ _) id is turn = absurd (none-some id is)
of_next k (requests.Abort _ _ _) id is turn = absurd (none-some id is)
of_next k (requests.Remove _ _) id is turn = absurd (none-some id is)
of_next k requests.Records id is turn = absurd (none-some id is)

pub no_round_unmet : NoRoundUnmet
no_round_unmet k s number range request id asked none is keeps =
    let next = of_next k request id is (keeps s asked) in
    contains_nil next.2.conflict (subst (λ hs. Contains hs next.2.conflict) none (next_met k next.0 next.1 next.2))

pub no_round_once_over : NoRoundOnceOver
no_round_once_over k s number range request id asked over is keeps =
    let next = of_next k request id is (keeps s asked) in
    let e : [] ≡ next.2.conflict ∷ next.2.later = sym over ∙ next.2.waits in
    absurd cc

-- what is neither of a round nor a heartbeat goes out where the call may go on
goes_on : (k : Known) (request : Request) → round_of request ≡ None → is_heartbeat request ≡ false → IsInNextTurn k request → MayGoOn k
goes_on k (requests.Push _ _ _ _ _) none other turn = absurd cc
goes_on k (requests.Resolve _ _ _) none other turn = absurd cc
goes_on k (requests.Query _ _ _ _ _ _) none other turn = absurd cc
goes_on k (requests.Recover _ _ _ _ _) none other turn = absurd cc
goes_on k (requests.Beat _ _ _) none other turn = absurd cc
goes_on k request none other turn = turn

pub nothing_behind_the_eighth : NothingBehindTheEighth
nothing_behind_the_eighth k s number range request holder asked blocked none other keeps =
    let on = goes_on k request none other (keeps s asked) in
    let P : Heard → Type 0 = λ h. IsAtItsEighth k h.request → ⊥ in
    let each : All P (blocked.before ++ blocked.conflict ∷ blocked.later) = subst (λ hs. All P hs) blocked.passed on.below in
    All-contains P (blocked.before ++ blocked.conflict ∷ blocked.later) blocked.conflict each
    (Contains-append_right blocked.before (blocked.conflict ∷ blocked.later) blocked.conflict (contains_head blocked.conflict blocked.later)) blocked.eighth
