-- Each read of a committed transaction agrees with what was written before it.
use Rattle.std.proofs.Common.{◌≡◌, ℕ, ◌+◌, ◌<◌, true, List, [], ◌∷◌, ◌++◌, append_assoc, flat_map, length, map, All, Contains, Option, None, Some, refl, sym, ap, subst, ◌∙◌, arith}
use Rattle.std.proofs.lemmas.List.{length-append}
use Rattle.std.proofs.lemmas.List.Elements.{All-contains, Contains-append_left, Contains-append_right}
use Rattle.std.specs.List.{AllByRecursion as Each}
use Rattle.pc_base.specs.declared.actor.ActorId.TheVariants as actors
use Rattle.pc_base.specs.declared.entry.Entry.{Entry}
use Rattle.pc_base.specs.declared.span.Span.{Span}
use Rattle.pc_base.specs.declared.span.Span.TheVariants.{One}
use Rattle.pc_base.specs.declared.transaction.TxnId.{TxnId}
use Rattle.pc_base.specs.Span.{contains}
use Rattle.pc_implicit.proofs.Agreed.{open_there}
use Rattle.pc_implicit.proofs.Deciders.{decided_by}
use Rattle.pc_implicit.proofs.EvaluatedAt.{goes_to}
use Rattle.pc_implicit.proofs.Fronts.{front_same}
use Rattle.pc_implicit.proofs.Reading.{reads_stand}
use Rattle.pc_implicit.proofs.SessionReads.{ComesFrom, IsReadAt, ReadsPieces, plain}
use Rattle.pc_implicit.proofs.ReadsComeFrom.{comes_from_reads}
use Rattle.pc_implicit.specs.Reads.{GrowsAbove, HasRead, IsReadOfSpan, Reads}
use Rattle.pc_implicit.specs.Writes.{txns_of}
use Rattle.pc_lists.proofs.Lists.{contains_head}
use Rattle.pc_lists.proofs.Same.{same_key-self}
use Rattle.pc_proto.specs.declared.event.Event.{Event}
use Rattle.pc_proto.specs.declared.record.Intent.{Intent}
use Rattle.pc_proto.specs.declared.reply.Origin.{Origin}
use Rattle.pc_proto.specs.declared.reply.Reply.{Reply}
use Rattle.pc_proto.specs.declared.reply.Reply.TheVariants as replies
use Rattle.pc_proto.specs.declared.request.Request.{Request}
use Rattle.pc_proto.specs.declared.request.Request.TheVariants as requests
use Rattle.pc_proto.specs.Intents.{first_other}
use Rattle.pc_serial.proofs.FoundWritten.{IsReadOf, found-is-written}
use Rattle.pc_serial.proofs.GoodReads.{good-is-clear}
use Rattle.pc_serial.proofs.Order.{PointsDiffer}
use Rattle.pc_serial.proofs.PieceRows.{AreOfPieces, pieces-show}
use Rattle.pc_serial.proofs.Ranks.{all-committed}
use Rattle.pc_serial.proofs.RunsOnWritten.{AllReadWritten, ReadsWritten}
use Rattle.pc_serial.proofs.ScanRows.{scan-shows}
use Rattle.pc_serial.proofs.SolePieces.{IsSole, sole-in-turn, sole-range}
use Rattle.pc_serial.proofs.SpanRows.{Show, show-same}
use Rattle.pc_serial.proofs.Undecided.{not-yet}
use Rattle.pc_serial.proofs.Written.{written}
use Rattle.pc_world.proofs.Prefixes.{run_front}
use Rattle.pc_world.specs.After.{known_at, state_at}
use Rattle.pc_world.specs.Committed.{IsCommitted, commit_point, commit_ts}
use Rattle.pc_world.specs.Evaluation.Get.{found_at, get_blocker, get_reply}
use Rattle.pc_world.specs.Evaluation.Scan.{rows_in, scan_reply}
use Rattle.pc_world.specs.Known.Reads.{IsGoodAt}
use Rattle.pc_world.specs.Known.Traffic.{reply_in}
use Rattle.pc_world.specs.Known.Transactions.{Txn}
use Rattle.pc_world.specs.Legal.{committed_in_order}
use Rattle.pc_world.specs.Local.{Head}
use Rattle.pc_world.specs.Named.{request_in, request_named}
use Rattle.pc_world.specs.Operations.{Operation, Read, ReadAll, Write, operations_of}
use Rattle.pc_world.specs.RangeOf.{pieces, range_of}
use Rattle.pc_world.specs.Run.{IsRun}

-- ---- what is answered is what was found

get-says : (blocker : Option Intent) (key : List ℕ) (found : Origin × Option (List ℕ)) (origin : Origin) (value : Option (List ℕ)) → replies.Value origin value ≡ get_reply blocker key found → value ≡ found.1
get-says None key found origin value h = cc h
get-says (Some i) key found origin value h = absurd cc

scan-says : (blocker : Option (List ℕ × Intent)) (rows found : List (List ℕ × Origin × List ℕ)) → replies.Rows found ≡ scan_reply blocker rows → found ≡ rows
scan-says None rows found h = cc h
scan-says (Some e) rows found h = absurd cc

-- How a committed transaction stood when it was decided: it had done all that it did, and its reads were good.
record IsGoodTxn (head : Head) (history : List (Entry Event)) (id : TxnId) : Type 0 where
  at : ℕ
  committed : IsCommitted head history id at
  front : List (Entry Event)
  back : List (Entry Event)
  whole : history ≡ front ++ back
  early : length front < commit_point head history id
  t : Txn
  mine : Contains (txns_of head id front) t
  named : t.id ≡ id
  did : operations_of history id ≡ operations_of front id
  good : All (IsGoodAt id (known_at head (actors.Session id.session) front).heard at) t.reads

module _ (head : Head) (history : List (Entry Event)) (run : IsRun head history) (differ : PointsDiffer head history) where
  good-txn : (id : TxnId) (at : ℕ) → IsCommitted head history id at → IsGoodTxn head history id
  good-txn id at is =
      let d = decided_by head history run id at is in
      let did : operations_of (d.before ++ d.e ∷ d.later) id ≡ operations_of d.before id =
      subst (λ i. operations_of (d.before ++ d.e ∷ d.later) i ≡ operations_of d.before i) d.named (d.still d.later (front_same d.later)).operations in
      record {
        at = at;
        committed = is;
        front = d.before;
        back = d.e ∷ d.later;
        whole = d.whole;
        early = d.early;
        t = d.t;
        mine = open_there (known_at head (actors.Session id.session) d.before) d.t d.opened;
        named = d.named;
        did = ap (λ h. operations_of h id) d.whole ∙ did;
        good = subst (λ i. All (IsGoodAt i (known_at head (actors.Session id.session) d.before).heard at) d.t.reads) d.named d.good.reads;
      }

  module _ (id : TxnId) (g : IsGoodTxn head history id) (before later : List TxnId) (stands : committed_in_order head history ≡ before ++ id ∷ later)
      (done : List Operation) (o : Operation) (rest : List Operation) (did : operations_of history id ≡ done ++ o ∷ rest) where
    -- What was written of a key before.
    abbrev look : List ℕ → Option (List ℕ)
    look key = written key (flat_map (operations_of history) before ++ done)

    module _ (span : Span) (range : ℕ) (asks : ℕ → ℕ → Request) (told : Reply) (r : IsReadAt head g.front id g.t.epoch g.t.reads done span range asks told) (reads : IsReadOfSpan id span r.ts (asks r.seq r.ts) told) where
      evaluated : Reads head r.before range id span r.ts r.e
      evaluated = record {
        evaluated = r.evaluates.there;
        request = asks r.seq r.ts;
        asked = ap request_named r.evaluates.named ∙ ap request_in r.evaluates.sends;
        reply = told;
        told = ap reply_in r.evaluates.evaluates;
        is = reads;
      }

      later-whole : history ≡ r.before ++ r.e ∷ (r.later ++ g.back)
      later-whole = g.whole ∙ ap (λ h. h ++ g.back) r.whole ∙ append_assoc r.before (r.e ∷ r.later) g.back

      stays-read : HasRead id span r.ts (state_at head range history) × GrowsAbove id span r.ts (state_at head range r.before).versions (state_at head range history).versions
      stays-read =
          let stand = reads_stand head range id span r.ts r.before r.e (r.later ++ g.back) (subst (IsRun head) later-whole run) evaluated in (
            subst (λ h. HasRead id span r.ts (state_at head range h)) (sym later-whole) stand.0,
            subst (λ h. GrowsAbove id span r.ts (state_at head range r.before).versions (state_at head range h).versions) (sym later-whole) stand.1,
          )

      uncommitted : commit_ts head r.before id ≡ None
      uncommitted =
          let size : length g.front ≡ length r.before + length (r.e ∷ r.later) = ap length r.whole ∙ length-append r.before (r.e ∷ r.later) in
          let early = g.early in
          not-yet head id history run r.before (r.e ∷ (r.later ++ g.back)) later-whole g.at g.committed (omega (arith, size, early))

      read-of : (key : List ℕ) → contains span key ≡ true → range ≡ range_of head.splits key → IsReadOf head history run differ id before later done g.t.epoch r.seq r.ts span key r.before
      read-of key inside there =
          let good = All-contains (IsGoodAt id (known_at head (actors.Session id.session) g.front).heard g.at) g.t.reads (record { span = span; ts = r.ts }) g.good r.kept in
          let read : HasRead id span r.ts (state_at head (range_of head.splits key) history) = subst (λ n. HasRead id span r.ts (state_at head n history)) there stays-read.0 in
          record {
            stands = stands;
            rest = o ∷ rest;
            did = did;
            at = g.at;
            committed = g.committed;
            back = r.e ∷ (r.later ++ g.back);
            whole = later-whole;
            inside = inside;
            last = r.last;
            proved = λ own value c. r.proved key own value c inside;
            had = r.earlier;
            uncommitted = uncommitted;
            good = good.up_to.0;
            clear = good-is-clear head history run g.front g.back g.whole (actors.Session id.session) id key span r.ts inside read good.up_to.0 good.up_to.1;
            reaches = good.up_to.2;
            low = good.not_below;
            grows = subst (λ n. GrowsAbove id span r.ts (state_at head n r.before).versions (state_at head n history).versions) there stays-read.1;
          }

      -- what the evaluation found at a key of its span is what was written there before
      found-before : (key : List ℕ) → contains span key ≡ true → range ≡ range_of head.splits key → (found_at id g.t.epoch r.seq r.ts key (state_at head range r.before)).1 ≡ look key
      found-before key inside there =
          ap (λ n. (found_at id g.t.epoch r.seq r.ts key (state_at head n r.before)).1) there
          ∙ found-is-written head history run differ id before later done g.t.epoch r.seq r.ts span key r.before (read-of key inside there)

    -- What a piece of a scan was told comes from one evaluation.
    abbrev IsPieceRead : ℕ × Span → List (List ℕ × Origin × List ℕ) → Type 0
    IsPieceRead p found = IsReadAt head g.front id g.t.epoch g.t.reads done p.1 p.0 (λ seq ts. requests.Scan id g.t.epoch seq ts p.1) (replies.Rows found)

    -- each piece of a scan is the one piece of its span
    piece-is-sole : (p : ℕ × Span) (found : List (List ℕ × Origin × List ℕ)) → IsPieceRead p found → IsSole head.splits p
    piece-is-sole p found r =
        goes_to head g.front (run_front head g.front g.back (subst (IsRun head) g.whole run)) r.evaluates.send
        (subst (λ h. Contains h r.evaluates.send) (sym r.whole) (Contains-append_left r.before (r.e ∷ r.later) r.evaluates.send r.evaluates.listed)) r.evaluates.number p.0
        (requests.Scan id g.t.epoch r.seq r.ts p.1) r.evaluates.sends

    -- and shows what was written before
    piece-shows : (p : ℕ × Span) (found : List (List ℕ × Origin × List ℕ)) → IsPieceRead p found → Show p.1 look (map plain found)
    piece-shows p found r =
        let s = state_at head p.0 r.before in
        let is : found ≡ rows_in id g.t.epoch r.seq r.ts p.1 s = scan-says (first_other p.1 r.ts id s.intents) (rows_in id g.t.epoch r.seq r.ts p.1 s) found r.evaluates.answers in
        subst (λ rows. Show p.1 look (map plain rows)) (sym is)
        (show-same p.1 (λ key. (found_at id g.t.epoch r.seq r.ts key s).1) look (map plain (rows_in id g.t.epoch r.seq r.ts p.1 s))
        (λ key inside. found-before p.1 p.0 (λ seq ts. requests.Scan id g.t.epoch seq ts p.1) (replies.Rows found) r (refl, refl, refl) key inside
        (sole-range head.splits p.1 p.0 key (piece-is-sole p found r) inside))
        (scan-shows id g.t.epoch r.seq r.ts p.1 s))

    all-sole : (ps : List (ℕ × Span)) (rows : List (List ℕ × List ℕ)) → ReadsPieces head g.front id g.t.epoch g.t.reads done ps rows → Each (IsSole head.splits) ps
    all-sole [] rows read = tt
    all-sole (p ∷ ps) rows read = (piece-is-sole p read.0 read.2, all-sole ps read.1 read.4)

    all-show : (ps : List (ℕ × Span)) (rows : List (List ℕ × List ℕ)) → ReadsPieces head g.front id g.t.epoch g.t.reads done ps rows → AreOfPieces (λ p found. Show p.1 look found) ps rows
    all-show [] rows read = read
    all-show (p ∷ ps) rows read = (map plain read.0, read.1, piece-shows p read.0 read.2, read.3, all-show ps read.1 read.4)

    agrees-from : (x : Operation) → ComesFrom head g.front id g.t.epoch g.t.reads done x → ReadsWritten (flat_map (operations_of history) before ++ done) x
    agrees-from (Read key value) c =
        let r = c.at in
        let s = state_at head (range_of head.splits key) r.before in
        get-says (get_blocker id r.ts key s) key (found_at id g.t.epoch r.seq r.ts key s) c.origin value r.evaluates.answers
        ∙ found-before (One key) (range_of head.splits key) (λ seq ts. requests.Get id g.t.epoch seq ts key) (replies.Value c.origin value) r (refl, refl, refl) key (same_key-self key) refl
    agrees-from (ReadAll span rows) c =
        pieces-show head.splits span look rows (sole-in-turn head.splits span (all-sole (pieces head.splits span) rows c)) (all-show (pieces head.splits span) rows c)
    agrees-from (Write key seq value) c = tt

    -- the operation agrees with what was written before it
    agrees : ReadsWritten (flat_map (operations_of history) before ++ done) o
    agrees = agrees-from o (comes_from_reads head g.front (run_front head g.front g.back (subst (IsRun head) g.whole run)) id g.t g.mine g.named done o rest (sym g.did ∙ did))

  -- each read of the committed transactions agrees with what was written before it
  pub all-read-written : AllReadWritten (operations_of history) (committed_in_order head history)
  all-read-written before id later done o rest stands did =
      let c = all-committed head history differ id (subst (λ xs. Contains xs id) (sym stands) (Contains-append_right before (id ∷ later) id (contains_head id later))) in
      agrees id (good-txn id c.0 c.1) before later stands done o rest did
