-- The views of a transaction that were heard.
use Rattle.std.specs.Prelude.{◌≡◌, ℕ, Bool, false, ◌&&◌, not, if◌then◌else◌, Option, None, Some, List, [], ◌∷◌, find, is_some, Any, IsTrue}
use Rattle.std.specs.Option.{option_and_then, option_map_or, option_or}
use Rattle.pc_base.specs.declared.transaction.TxnId.{TxnId}
use Rattle.pc_proto.specs.declared.fate.Fate.{Fate}
use Rattle.pc_proto.specs.declared.reply.Reply.{Reply}
use Rattle.pc_proto.specs.declared.request.Request.{Request}
use Rattle.pc_proto.specs.declared.view.View.{View}
use Rattle.pc_proto.specs.declared.why.Why.{Why}
use Rattle.pc_proto.specs.Replies.{view_in}
use Rattle.pc_proto.specs.Requests.{is_about, subject_anchor}
use Rattle.pc_proto.specs.Views.{AbortsWith, final_fate, is_committed_at, is_final_view}
use Rattle.pc_world.specs.Known.Traffic.{Heard}

-- A view of the transaction that is not final was heard.
abbrev pub shows_undecided : TxnId → Request → Reply → Bool
shows_undecided id request reply = is_about id request && option_map_or (λ view. not (is_final_view view)) (view_in reply) false

-- A view of the transaction was heard.
abbrev pub shows_view : TxnId → Heard → Bool
shows_view id h = is_about id h.request && is_some (view_in h.reply)

-- The anchor of the transaction, by the request to which the first view of it was heard.
abbrev pub anchor_heard : TxnId → List Heard → Option (List ℕ)
anchor_heard id heard = option_and_then (λ h. subject_anchor h.request) (find (shows_view id) heard)

-- A view says that the transaction is committed at this timestamp.
abbrev pub shows_committed : TxnId → ℕ → Heard → Bool
shows_committed id ts h = is_about id h.request && option_map_or (is_committed_at ts) (view_in h.reply) false

-- The transaction was heard to be committed at this timestamp.
abbrev pub WasCommitted : List Heard → TxnId → ℕ → Type 0
WasCommitted heard id ts = Any (λ h. IsTrue (shows_committed id ts h)) heard

-- A view says that the transaction is aborted, with this cause.
pub record ShowsAborted (id : TxnId) (why : Why) (h : Heard) : Type 0 where
  pub about : IsTrue (is_about id h.request)
  pub view : View
  pub told : view_in h.reply ≡ Some view
  pub cause : AbortsWith why view

-- The transaction was heard to be aborted, with this cause.
abbrev pub WasAborted : List Heard → TxnId → Why → Type 0
WasAborted heard id why = Any (ShowsAborted id why) heard

-- The fate of the transaction that a reply shows, where it shows a final view of it.
abbrev pub fate_shown : TxnId → Heard → Option Fate
fate_shown id h = if is_about id h.request then option_and_then final_fate (view_in h.reply) else None

-- The fate of the transaction, by the first final view of it that was heard.
abbrev pub fate_heard : TxnId → List Heard → Option Fate
fate_heard id [] = None
fate_heard id (h ∷ heard) = option_or (fate_shown id h) (fate_heard id heard)
