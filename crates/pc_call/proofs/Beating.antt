-- Heartbeats of an open call: that none is due, and each that went out found the transaction alive, stays so while the call goes on.
use Rattle.std.proofs.Common.{◌≡◌, ℕ, true, false, Bool, ◌||◌, ◌==◌, List, [], ◌∷◌, ◌++◌, drop, length, fold, Some, refl, sym, ap, ◌∙◌, subst, arith, All, Any, IsTrue}
use Rattle.std.proofs.lemmas.List.{append-nil, length-append}
use Rattle.std.proofs.lemmas.List.Elements.{All-append, All-cons, All-head, All-nil, All-tail, All-weaker}
use Rattle.std.proofs.lemmas.List.Folds.{list_any-append}
use Rattle.std.proofs.lemmas.Option.{same_Some}
use Rattle.pc_call.proofs.Facts.{open_is}
use Rattle.pc_call.proofs.Lists.{all_behind}
use Rattle.pc_call.specs.Beaten.{BeatsOnlyFirst, HasBeatenFirst, HasBeatenIn}
use Rattle.pc_call.specs.Learned.{known_heard, known_sent}
use Rattle.pc_call.specs.Serving.{IsOpenIn}
use Rattle.pc_follows.specs.Heartbeats.{AreBeatsHeard, FindsAborted, HasBeaten, IsBeatDue, KeepsHeartbeats, TellsAfterBeats, is_heartbeat, last_shown, shown_by}
use Rattle.pc_follows.specs.LastBeats.{HasSentLastBeat}
use Rattle.pc_lists.proofs.Anywhere.{any_kept}
use Rattle.pc_proto.specs.declared.answer.Answer.{Answer}
use Rattle.pc_proto.specs.declared.event.Event.TheVariants as events
use Rattle.pc_proto.specs.declared.reply.Reply.{Reply}
use Rattle.pc_proto.specs.declared.reply.Reply.TheVariants as replies
use Rattle.pc_proto.specs.declared.request.Request.{Request}
use Rattle.pc_proto.specs.declared.view.View.{View}
use Rattle.pc_proto.specs.declared.view.View.TheVariants as views
use Rattle.pc_proto.specs.declared.why.Why.{Why}
use Rattle.pc_proto.specs.Replies.{is_undecided_status, view_in}
use Rattle.pc_proto.specs.Views.{AbortsWith}
use Rattle.pc_txn.specs.Standing.{IsUndecidedOf}
use Rattle.pc_wave.proofs.Lists.{any_before}
use Rattle.pc_wave.specs.Standing.{HasMore}
use Rattle.pc_world.specs.Known.{Known, open_txn}
use Rattle.pc_world.specs.Known.Traffic.{Heard, Sent}
use Rattle.pc_world.specs.Known.Transactions.{Txn, txn_heard, txn_sent}
use Rattle.pc_world.specs.Tell.Refusal.{is_heard}
use Rattle.pc_world.specs.Views.{ShowsAborted, WasCommitted, shows_committed}

-- a reply that shows a record which is not final shows none that is aborted
pub not_aborted : (why : Why) (reply : Reply) → is_undecided_status reply ≡ true → (view : View) → view_in reply ≡ Some view → AbortsWith why view → ⊥
not_aborted why (replies.Status shown) is (views.Aborted epoch cause locks) e c =
    let same : shown ≡ views.Aborted epoch cause locks = cc in
    let final : is_undecided_status (replies.Status shown) ≡ false = ap (λ v. is_undecided_status (replies.Status v)) same in
    absurd cc
not_aborted why (replies.Status shown) is view e c = c
not_aborted why reply is view e c = absurd cc

-- a reply that shows a record which is not final shows none that is aborted
pub undecided_not_aborted : (t : Txn) (h : Heard) (why : Why) → IsUndecidedOf t h → ShowsAborted t.id why h → ⊥
undecided_not_aborted t h why undecided shows = not_aborted why h.reply (undecided shows.about).undecided shows.view shows.told shows.cause

or_first : (a b : Bool) → a ≡ true → (a || b) ≡ true
or_first true b h = refl
or_first false b h = absurd cc

-- what was heard stays so
pub heard_longer : (heard more : List Heard) (m : Sent) → IsTrue (is_heard heard m) → IsTrue (is_heard (heard ++ more) m)
heard_longer heard more m is =
    list_any-append (λ (h : Heard). h.number == m.number) heard more ∙ or_first (is_heard heard m) (is_heard more m) is

-- a list that ends so is not empty
pub not_nil : {X : Type 0} (xs : List X) (x : X) (ys : List X) → xs ++ x ∷ ys ≡ [] → ⊥
not_nil xs x ys e = let n = length-append xs (x ∷ ys) in let l = ap length e in absurd (omega (arith, n, l))

nil_both : {X : Type 0} (xs ys : List X) → xs ++ ys ≡ [] → (xs ≡ []) × (ys ≡ [])
nil_both [] [] e = (refl, refl)
nil_both [] (y ∷ ys) e = absurd cc
nil_both (x ∷ xs) ys e = absurd cc

-- The message is no heartbeat.
abbrev pub IsSilentSent : Sent → Type 0
IsSilentSent m = is_heartbeat m.request ≡ false

-- Nor is what the reply is to.
abbrev pub IsSilentHeard : Heard → Type 0
IsSilentHeard h = is_heartbeat h.request ≡ false

-- what went out behind the first message of the call is no heartbeat, and so it stays
behind_first : (sent more : List Sent) → All IsSilentSent (drop 1 sent) → All IsSilentSent more → All IsSilentSent (drop 1 (sent ++ more))
behind_first [] [] old new = All-nil IsSilentSent
behind_first [] (m ∷ more) old new = All-tail IsSilentSent m more new
behind_first (m ∷ sent) more old new = All-append IsSilentSent sent more old new

pub first_beside : (k k2 : Known) (sent_more : List Sent) (heard_more : List Heard) → HasMore k k2 sent_more heard_more → All IsSilentSent sent_more → BeatsOnlyFirst k → BeatsOnlyFirst k2
first_beside k k2 sent_more heard_more more silent first = subst (λ ms. All IsSilentSent (drop 1 ms)) (sym more.sent_now) (behind_first k.sent_now sent_more first silent)

-- so none went out behind another
pub no_last_beat : (k : Known) → BeatsOnlyFirst k → HasSentLastBeat k → ⊥
no_last_beat k first last =
    let behind : All IsSilentSent (last.between ++ last.beat ∷ last.later) = subst (λ ms. All IsSilentSent (drop 1 ms)) last.whole first in
    let e : false ≡ true = sym (All-head IsSilentSent last.beat last.later (all_behind IsSilentSent last.between (last.beat ∷ last.later) behind)) ∙ last.beats in
    cc

-- The transaction of this name, born at this reading, with another state.
pub record IsStillIt (t t2 : Txn) : Type 0 where
  pub id : t2.id ≡ t.id
  pub born : t2.born ≡ t.born

module _ (k k2 : Known) (t t2 : Txn) (sent_more : List Sent) (heard_more : List Heard) (more : HasMore k k2 sent_more heard_more) (statement : k2.statement ≡ k.statement) (opened : open_txn k ≡ Some t) (still : IsStillIt t t2)
    (anchored : sent_more ≡ [] → t2.anchor ≡ t.anchor) (sent : All IsSilentSent sent_more) (heard : All IsSilentHeard heard_more) (b : HasBeatenFirst k t) where
  same_last : (ms : List Sent) → last_shown t2 ms ≡ last_shown t ms
  same_last ms =
      ap (λ id. fold (λ last m. shown_by id last m.request) t2.born ms) still.id ∙ ap (λ n. fold (λ last (m : Sent). shown_by t.id last m.request) n ms) still.born

  due_before : IsBeatDue k2 t2 → IsBeatDue k t
  due_before d =
      let none = nil_both k.sent_now sent_more (sym more.sent_now ∙ d.first) in
      let same : k2.sent ≡ k.sent = more.sent ∙ ap (λ ms. k.sent ++ ms) none.1 ∙ append-nil k.sent in
      let last : last_shown t2 k2.sent ≡ last_shown t k.sent = ap (last_shown t2) same ∙ same_last k.sent in
      record {
        s = d.s;
        opened = sym statement ∙ d.opened;
        asks = d.asks;
        first = none.0;
        whose = opened;
        anchor = d.anchor;
        anchored = sym (anchored none.1) ∙ d.anchored;
        uncommitted = λ ts was.
            d.uncommitted ts
            (subst (λ id. WasCommitted k2.heard id ts) (sym still.id) (subst (λ hs. WasCommitted hs t.id ts) (sym more.heard) (any_kept (λ h. IsTrue (shows_committed t.id ts h)) k.heard heard_more was)));
        late = omega (arith, d.late, last);
      }

  heard2 : AreBeatsHeard k2
  heard2 =
      let P : Sent → Type 0 = λ m. IsTrue (is_heartbeat m.request) → IsTrue (is_heard k2.heard m) in
      subst (λ ms. All P ms) (sym more.sent_now)
      (All-append P k.sent_now sent_more
      (All-weaker (λ m. IsTrue (is_heartbeat m.request) → IsTrue (is_heard k.heard m)) P
      (λ m was beat. subst (λ hs. IsTrue (is_heard hs m)) (sym more.heard) (heard_longer k.heard heard_more m (was beat))) k.sent_now b.heard)
      (All-weaker IsSilentSent P (λ m silent beat. let e : false ≡ true = sym silent ∙ beat in absurd cc) sent_more sent))

  alive2 : (why : Why) → Any (FindsAborted t2 why) k2.heard_now → ⊥
  alive2 why found =
      let none : All (λ h. FindsAborted t why h → ⊥) heard_more =
      All-weaker IsSilentHeard (λ h. FindsAborted t why h → ⊥) (λ h silent f. let e : false ≡ true = sym silent ∙ f.beat in absurd cc) heard_more heard in
      let mine : (h : Heard) → FindsAborted t2 why h → FindsAborted t why h = λ h f. record { beat = f.beat; aborted = subst (λ id. ShowsAborted id why h) still.id f.aborted } in
      let all : Any (FindsAborted t why) (k.heard_now ++ heard_more) =
      subst (λ hs. Any (FindsAborted t why) hs) more.heard_now (found.0, found.1, found.2, found.3, mine found.1 found.4) in
      b.alive why (any_before (FindsAborted t why) k.heard_now heard_more none all)

  pub beaten_more : HasBeatenFirst k2 t2
  beaten_more = record { none_due = λ d. b.none_due (due_before d); heard = heard2; alive = alive2; first = first_beside k k2 sent_more heard_more more sent b.first }

-- beside that none went out behind another message
pub beaten_so : (loses : Bool) (k : Known) (t : Txn) → HasBeatenIn loses k t → loses ≡ false → HasBeaten k t
beaten_so loses k t b quiet = record { none_due = (b quiet).none_due; heard = (b quiet).heard; alive = (b quiet).alive }

-- once another message was sent
pub beaten_sent : (loses : Bool) (k : Known) (t : Txn) (number range : ℕ) (request : Request) → IsOpenIn k t → is_heartbeat request ≡ false → HasBeatenIn loses k t → HasBeatenIn loses (known_sent number range request k) (txn_sent request t)
beaten_sent loses k t number range request open_in silent b quiet =
    let m : Sent = record { number = number; range = range; request = request } in
    beaten_more k (known_sent number range request k) t (txn_sent request t) (m ∷ []) [] (record { sent = refl; sent_now = refl; heard = sym (append-nil k.heard); heard_now = sym (append-nil k.heard_now) }) refl
    (open_is k t open_in) (record { id = refl; born = refl }) (λ none. absurd cc) (All-cons IsSilentSent m [] silent (All-nil IsSilentSent)) (All-nil IsSilentHeard) (b quiet)

-- once another reply was heard
pub beaten_heard : (loses : Bool) (k : Known) (t : Txn) (h : Heard) → IsOpenIn k t → is_heartbeat h.request ≡ false → HasBeatenIn loses k t → HasBeatenIn loses (known_heard h k) (txn_heard k.sent (Some h) t)
beaten_heard loses k t h open_in silent b quiet =
    beaten_more k (known_heard h k) t (txn_heard k.sent (Some h) t) [] (h ∷ []) (record { sent = sym (append-nil k.sent); sent_now = sym (append-nil k.sent_now); heard = refl; heard_now = refl }) refl
    (open_is k t open_in) (record { id = refl; born = refl }) (λ none. refl) (All-nil IsSilentSent) (All-cons IsSilentHeard h [] silent (All-nil IsSilentHeard)) (b quiet)

-- and once messages were sent and heard beside the call
pub beaten_beside : (loses : Bool) (k k2 : Known) (t : Txn) (sent_more : List Sent) (heard_more : List Heard) → HasMore k k2 sent_more heard_more → k2.statement ≡ k.statement → IsOpenIn k t → All IsSilentSent sent_more → All IsSilentHeard heard_more → HasBeatenIn loses k t
    → HasBeatenIn loses k2 t
beaten_beside loses k k2 t sent_more heard_more more statement open_in sent heard b quiet =
    beaten_more k k2 t t sent_more heard_more more statement (open_is k t open_in) (record { id = refl; born = refl }) (λ none. refl) sent heard (b quiet)

-- the call may be told any answer then
pub beaten_told : (loses : Bool) (k : Known) (t : Txn) (answer : Answer) → IsOpenIn k t → (loses ≡ false → HasBeaten k t) → loses ≡ false → KeepsHeartbeats k (events.Tell answer)
beaten_told loses k t answer open_in b quiet s u opened whose =
    let same : t ≡ u = same_Some t u (sym (open_is k t open_in) ∙ whose) in
    subst (λ u. TellsAfterBeats k u answer) same (record { none_due = (b quiet).none_due; heard = (b quiet).heard; aborted = λ why found. absurd ((b quiet).alive why found) })

pub beaten_tells : (loses : Bool) (k : Known) (t : Txn) (answer : Answer) → IsOpenIn k t → HasBeatenIn loses k t → loses ≡ false → KeepsHeartbeats k (events.Tell answer)
beaten_tells loses k t answer open_in b = beaten_told loses k t answer open_in (beaten_so loses k t b)
