-- Each proof of a write that a session knows is the answer of its key's range: to a put of the write, or to a query of it.
use Rattle.std.proofs.Common.{◌≡◌, ℕ, Bool, true, false, cond, ◌&&◌, ◌==◌, if◌then◌else◌, inl, inr, List, [], ◌∷◌, ◌++◌, map, Option, None, Some, IfSome, Contains, IsTrue, refl, sym, subst}
use Rattle.std.proofs.lemmas.Bool.{and_parts, eqb-true}
use Rattle.std.specs.List.{AllByRecursion as Each, list_any}
use Rattle.pc_base.specs.declared.actor.ActorId.{ActorId}
use Rattle.pc_base.specs.declared.entry.Entry.{Entry}
use Rattle.pc_base.specs.declared.transaction.TxnId.{TxnId}
use Rattle.pc_base.specs.Span.{same_key}
use Rattle.pc_base.specs.Transaction.{same_txn}
use Rattle.pc_history.specs.Own.{named_in}
use Rattle.pc_implicit.proofs.Doing.{same_or_not}
use Rattle.pc_implicit.proofs.EvaluatedAt.{answered_at, evaluated_more, goes_to}
use Rattle.pc_implicit.proofs.Hearing.{IsSo, heard-event}
use Rattle.pc_implicit.proofs.SessionReads.{ByPut, ByQuery, WasEvaluated, WasProved}
use Rattle.pc_implicit.proofs.Shown.{WasAnswered}
use Rattle.pc_implicit.proofs.WriteLists.{proof_of}
use Rattle.pc_lists.proofs.Each.{each-append, each-contains, each-map, each-weaker}
use Rattle.pc_lists.proofs.Same.{same_key-is, same_txn-is}
use Rattle.pc_proto.specs.declared.answer.Answer.{Answer}
use Rattle.pc_proto.specs.declared.answer.Answer.TheVariants as answers
use Rattle.pc_proto.specs.declared.event.Event.{Event}
use Rattle.pc_proto.specs.declared.event.Event.TheVariants as events
use Rattle.pc_proto.specs.declared.reply.Reply.{Reply}
use Rattle.pc_proto.specs.declared.reply.Reply.TheVariants as replies
use Rattle.pc_proto.specs.declared.request.Request.{Request}
use Rattle.pc_proto.specs.declared.request.Request.TheVariants as requests
use Rattle.pc_world.proofs.Knowing.{known_other, known_same}
use Rattle.pc_world.proofs.Prefixes.{run_induction}
use Rattle.pc_world.specs.After.{known_at}
use Rattle.pc_world.specs.Caused.{IsCaused}
use Rattle.pc_world.specs.Known.{Known, told_first, txn_begun, txns_after}
use Rattle.pc_world.specs.Known.Statements.{Statement}
use Rattle.pc_world.specs.Known.Traffic.{Heard, Sent, heard_by, replies_to}
use Rattle.pc_world.specs.Known.Transactions.{Txn, txn_heard, txn_sent, txn_told}
use Rattle.pc_world.specs.Known.Writes.{Write as WriteMade, asked_again, is_proved, proved_at, with_put, with_put_reply, with_query_reply, writes_replied, writes_sent}
use Rattle.pc_world.specs.Local.{Head}
use Rattle.pc_world.specs.RangeOf.{range_of}
use Rattle.pc_world.specs.Run.{IsRun, protocol}

-- what was proved stays so
pub proved_more : (head : Head) (history more : List (Entry Event)) (id : TxnId) (epoch seq : ℕ) (key : List ℕ) (at : ℕ) → WasProved head history id epoch seq key at → WasProved head (history ++ more) id epoch seq key at
proved_more head history more id epoch seq key at (ByPut meta ts value named same w) =
    ByPut meta ts value named same (evaluated_more head history more (range_of head.splits key) (requests.Put meta seq ts key value) (replies.Written at) w)
proved_more head history more id epoch seq key at (ByQuery by w) =
    ByQuery by (evaluated_more head history more (range_of head.splits key) (requests.Query id epoch seq at key by) replies.Found w)

module _ (head : Head) (history : List (Entry Event)) (id : TxnId) (epoch : ℕ) where
  -- Each proof of the write is an answer.
  abbrev pub IsProven : WriteMade → Type 0
  IsProven w = Each (WasProved head history id epoch w.seq w.key) w.proofs

  asked-proven : (seq ts : ℕ) (w : WriteMade) → IsProven w → IsProven (asked_again seq ts w)
  asked-proven seq ts w proven = by (w.seq == seq)
    where
      by : (b : Bool) → IsProven (if b then record w { asked = w.asked ++ ts ∷ [] } else w)
      by true = proven
      by false = proven

  put-proven : (b : Bool) (seq ts : ℕ) (key : List ℕ) (value : Option (List ℕ)) (ws : List WriteMade) → Each IsProven ws
      → Each IsProven (if b then map (asked_again seq ts) ws else ws ++ record { key = key; seq = seq; value = value; asked = ts ∷ []; proofs = [] } ∷ [])
  put-proven true seq ts key value ws each = each-map IsProven (asked_again seq ts) ws (each-weaker IsProven (λ w. IsProven (asked_again seq ts w)) (asked-proven seq ts) ws each)
  put-proven false seq ts key value ws each = each-append IsProven ws (record { key = key; seq = seq; value = value; asked = ts ∷ []; proofs = [] } ∷ []) each (tt, tt)

  either-proven : (b : Bool) (xs ys : List WriteMade) → (b ≡ true → Each IsProven xs) → Each IsProven ys → Each IsProven (if b then xs else ys)
  either-proven true xs ys a c = a refl
  either-proven false xs ys a c = c

  sent-proven : (request : Request) (ws : List WriteMade) → Each IsProven ws → Each IsProven (writes_sent id epoch request ws)
  sent-proven (requests.Put meta seq ts key value) ws each =
      either-proven (same_txn meta.id id && meta.epoch == epoch) (with_put seq ts key value ws) ws (λ is. put-proven (list_any (λ w. w.seq == seq) ws) seq ts key value ws each) each
  sent-proven request ws each = each

  at-proven : (key : List ℕ) (seq at : ℕ) → WasProved head history id epoch seq key at → (w : WriteMade) → IsProven w → IsProven (proved_at key seq at w)
  at-proven key seq at new w proven = by (w.seq == seq && same_key w.key key) refl
    where
      by : (b : Bool) → (w.seq == seq && same_key w.key key) ≡ b → IsProven (if b then record w { proofs = w.proofs ++ at ∷ [] } else w)
      by true is =
          let parts = and_parts (w.seq == seq) (same_key w.key key) is in
          let own : WasProved head history id epoch w.seq w.key at =
          subst (λ n. WasProved head history id epoch n w.key at) (sym (eqb-true w.seq seq parts.0)) (subst (λ k. WasProved head history id epoch seq k at) (sym (same_key-is w.key key parts.1)) new) in
          each-append (WasProved head history id epoch w.seq w.key) w.proofs (at ∷ []) proven (own, tt)
      by false is = proven

  all-proven : (key : List ℕ) (seq at : ℕ) → WasProved head history id epoch seq key at → (ws : List WriteMade) → Each IsProven ws → Each IsProven (map (proved_at key seq at) ws)
  all-proven key seq at new ws each = each-map IsProven (proved_at key seq at) ws (each-weaker IsProven (λ w. IsProven (proved_at key seq at w)) (at-proven key seq at new) ws each)

  module _ (run : IsRun head history) (actor : ActorId) (number : ℕ) where
    -- an answer that was given was evaluated
    evaluated-so : (request : Request) (told : Reply) (w : WasAnswered head history actor number request told) → WasEvaluated head history w.range request told
    evaluated-so request told w =
        let a = answered_at head history run actor number request told w in
        record { before = a.before; e = a.e; later = a.later; whole = a.whole; at = a.at }

    written-proven : (key : List ℕ) (seq : ℕ) (reply : Reply) (ws : List WriteMade) → ((at : ℕ) → reply ≡ replies.Written at → WasProved head history id epoch seq key at) → Each IsProven ws → Each IsProven (with_put_reply key seq reply ws)
    written-proven key seq (replies.Written at) ws new each = all-proven key seq at (new at refl) ws each
    written-proven key seq reply ws new each = each

    found-proven : (key : List ℕ) (seq at : ℕ) (reply : Reply) (ws : List WriteMade) → (reply ≡ replies.Found → WasProved head history id epoch seq key at) → Each IsProven ws → Each IsProven (with_query_reply key seq at reply ws)
    found-proven key seq at replies.Found ws new each = all-proven key seq at (new refl) ws each
    found-proven key seq at reply ws new each = each

    replied-proven : (request : Request) (reply : Reply) → WasAnswered head history actor number request reply → (ws : List WriteMade) → Each IsProven ws → Each IsProven (writes_replied id epoch request reply ws)
    replied-proven (requests.Put meta seq ts key value) reply w ws each =
        either-proven (same_txn meta.id id && meta.epoch == epoch) (with_put_reply key seq reply ws) ws
        (λ is.
        let parts = and_parts (same_txn meta.id id) (meta.epoch == epoch) is in
        let there : w.range ≡ range_of head.splits key = goes_to head history run w.send w.listed number w.range (requests.Put meta seq ts key value) w.sends in
        written-proven key seq reply ws
        (λ at told.
        ByPut meta ts value (same_txn-is meta.id id parts.0) (eqb-true meta.epoch epoch parts.1)
        (subst (λ r. WasEvaluated head history r (requests.Put meta seq ts key value) (replies.Written at)) there
        (subst (WasEvaluated head history w.range (requests.Put meta seq ts key value)) told (evaluated-so (requests.Put meta seq ts key value) reply w)))) each)
        each
    replied-proven (requests.Query other at_epoch seq ts key by) reply w ws each =
        either-proven (same_txn other id && at_epoch == epoch) (with_query_reply key seq ts reply ws) ws
        (λ is.
        let parts = and_parts (same_txn other id) (at_epoch == epoch) is in
        let there : w.range ≡ range_of head.splits key = goes_to head history run w.send w.listed number w.range (requests.Query other at_epoch seq ts key by) w.sends in
        let named : other ≡ id = same_txn-is other id parts.0 in
        let same : at_epoch ≡ epoch = eqb-true at_epoch epoch parts.1 in
        found-proven key seq ts reply ws
        (λ told.
        ByQuery by
        (subst (λ i. WasEvaluated head history (range_of head.splits key) (requests.Query i epoch seq ts key by) replies.Found) named
        (subst (λ n. WasEvaluated head history (range_of head.splits key) (requests.Query other n seq ts key by) replies.Found) same
        (subst (λ r. WasEvaluated head history r (requests.Query other at_epoch seq ts key by) replies.Found) there
        (subst (WasEvaluated head history w.range (requests.Query other at_epoch seq ts key by)) told (evaluated-so (requests.Query other at_epoch seq ts key by) reply w)))))) each)
        each
    replied-proven request reply w ws each = each

module _ (head : Head) where
  -- Each proof of each write of the transaction's present epoch is an answer.
  abbrev pub AreProven : List (Entry Event) → Txn → Type 0
  AreProven history t = Each (IsProven head history t.id t.epoch) t.writes

  proven-more : (history more : List (Entry Event)) (t : Txn) → AreProven history t → AreProven (history ++ more) t
  proven-more history more t =
      each-weaker (IsProven head history t.id t.epoch) (IsProven head (history ++ more) t.id t.epoch)
      (λ w. each-weaker (WasProved head history t.id t.epoch w.seq w.key) (WasProved head (history ++ more) t.id t.epoch w.seq w.key) (λ at. proved_more head history more t.id t.epoch w.seq w.key at) w.proofs) t.writes

  module _ (history : List (Entry Event)) (run : IsRun head history) (actor : ActorId) where
    heard-proven : (sent : List Sent) (h : Option Heard) → IfSome h (IsSo head history actor) → (t : Txn) → AreProven history t → AreProven history (txn_heard sent h t)
    heard-proven sent None so t proven = proven
    heard-proven sent (Some h) so t proven = replied-proven head history t.id t.epoch run actor h.number h.request h.reply so t.writes proven

    told-proven : (answer : Answer) (replied : List Heard) (t : Txn) → AreProven history t → AreProven history (txn_told answer replied t)
    told-proven (answers.Restart key ts) replied t proven = tt
    told-proven answer replied t proven = proven

    first-proven : (answer : Answer) (replied : List Heard) (b : Bool) (txns : List Txn) → Each (AreProven history) txns → Each (AreProven history) (cond b (told_first answer replied txns) txns)
    first-proven answer replied true [] each = tt
    first-proven answer replied true (t ∷ ts) each = (told-proven answer replied t each.0, each.1)
    first-proven answer replied false txns each = each

    begun-proven : (s : Option Statement) (id : TxnId) (ts : ℕ) → AreProven history (txn_begun s id ts)
    begun-proven None id ts = tt
    begun-proven (Some s) id ts = tt

    after-proven : (k : Known) (event : Event) (h : Option Heard) → IfSome h (IsSo head history actor) → Each (AreProven history) k.txns → Each (AreProven history) (txns_after event h k)
    after-proven k (events.Send number range request) h so each =
        each-map (AreProven history) (txn_sent request) k.txns
        (each-weaker (AreProven history) (λ t. AreProven history (txn_sent request t)) (λ t. sent-proven head history t.id t.epoch request t.writes) k.txns each)
    after-proven k (events.Hear number step) h so each =
        each-map (AreProven history) (txn_heard k.sent h) k.txns
        (each-weaker (AreProven history) (λ t. AreProven history (txn_heard k.sent h t)) (heard-proven k.sent h so) k.txns each)
    after-proven k (events.Tell (answers.Begun id ts)) h so each = (begun-proven k.statement id ts, each)
    after-proven k (events.Tell answer) h so each = first-proven answer (replies_to k.sent_now k.heard_now) k.is_open k.txns each
    after-proven k event h so each = each

  proven : (history : List (Entry Event)) → IsRun head history → (actor : ActorId) → Each (AreProven history) (known_at head actor history).txns
  proven = run_induction head (λ history. (actor : ActorId) → Each (AreProven history) (known_at head actor history).txns) (λ actor. tt) (λ history e run may all actor.
      elim (same_or_not e.actor actor) [
        | inl same ↦
            let k = known_at head actor history in
            let h = heard_by e.event (named_in (protocol head) history e.event) k.sent in
            let so : IfSome h (IsSo head history actor) = heard-event head history run actor e.event (subst (IsCaused history e.event) same may.caused) in
            subst (λ (l : Known). Each (AreProven (history ++ e ∷ [])) l.txns) (sym (known_same head actor history e same))
            (each-weaker (AreProven history) (AreProven (history ++ e ∷ [])) (proven-more history (e ∷ [])) (txns_after e.event h k) (after-proven history run actor k e.event h so (all actor)))
        | inr differ ↦
            subst (λ (l : Known). Each (AreProven (history ++ e ∷ [])) l.txns) (sym (known_other head actor history e differ))
            (each-weaker (AreProven history) (AreProven (history ++ e ∷ [])) (proven-more history (e ∷ [])) (known_at head actor history).txns (all actor))
      ])

  -- each proof of a write that a session knows is an answer to a put or a query of the write
  pub proofs_are_so : (history : List (Entry Event)) → IsRun head history → (actor : ActorId) (t : Txn) (w : WriteMade) (at : ℕ) → Contains (known_at head actor history).txns t → Contains t.writes w → Contains w.proofs at
      → WasProved head history t.id t.epoch w.seq w.key at
  proofs_are_so history run actor t w at mine written proof =
      each-contains (WasProved head history t.id t.epoch w.seq w.key) w.proofs at
      (each-contains (IsProven head history t.id t.epoch) t.writes w (each-contains (AreProven history) (known_at head actor history).txns t (proven history run actor) mine) written) proof

  -- a write that a session knows proved was proved
  pub proved_is_so : (history : List (Entry Event)) → IsRun head history → (actor : ActorId) (t : Txn) (w : WriteMade) → Contains (known_at head actor history).txns t → Contains t.writes w → IsTrue (is_proved w)
      → (at : ℕ) × WasProved head history t.id t.epoch w.seq w.key at
  proved_is_so history run actor t w mine written is =
      let proof = proof_of w is in
      (proof.0, proofs_are_so history run actor t w proof.0 mine written proof.1)
