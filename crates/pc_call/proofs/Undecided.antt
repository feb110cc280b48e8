-- A reply that shows a record which is not final, and stands there.
use Rattle.std.proofs.Common.{◌≡◌, ℕ, ◌≤◌, true, false, refl, arith}
use Rattle.pc_call.specs.Stages.{IsUndecidedAt}
use Rattle.pc_proto.specs.declared.reply.Reply.{Reply}
use Rattle.pc_proto.specs.declared.reply.Reply.TheVariants as replies
use Rattle.pc_proto.specs.declared.view.View.{View}
use Rattle.pc_proto.specs.declared.view.View.TheVariants as views
use Rattle.pc_proto.specs.Replies.{is_undecided_status}
use Rattle.pc_proto.specs.Stamps.{greatest_of, reply_stamps}
use Rattle.pc_proto.specs.Views.{is_final_view, undecided_ts}

pub status_of : (reply : Reply) → is_undecided_status reply ≡ true → (view : View) × (reply ≡ replies.Status view)
status_of (replies.Status view) is = (view, refl)
status_of reply is = absurd cc

pub no_final : (view : View) (recorded : ℕ) → IsUndecidedAt (replies.Status view) recorded → is_final_view view ≡ false
no_final (views.Pending epoch ts) recorded u = refl
no_final (views.Staging epoch ts writes) recorded u = refl
no_final views.Nothing recorded u = refl
no_final (views.Committed epoch ts locks) recorded u = let f : false ≡ true = u.undecided in absurd cc
no_final (views.Aborted epoch why locks) recorded u = let f : false ≡ true = u.undecided in absurd cc

pub stands_there : (view : View) (recorded : ℕ) → IsUndecidedAt (replies.Status view) recorded → undecided_ts view ≡ recorded
stands_there (views.Pending epoch ts) recorded u = u.there
stands_there (views.Staging epoch ts writes) recorded u = u.there
stands_there views.Nothing recorded u = u.there
stands_there (views.Committed epoch ts locks) recorded u = let f : false ≡ true = u.undecided in absurd cc
stands_there (views.Aborted epoch why locks) recorded u = let f : false ≡ true = u.undecided in absurd cc

-- it is no later than the greatest timestamp of the reply
pub within_stamps : (view : View) (recorded : ℕ) → IsUndecidedAt (replies.Status view) recorded → (high : ℕ) → greatest_of (reply_stamps (replies.Status view)) ≤ high → recorded ≤ high
within_stamps (views.Pending epoch ts) recorded u high low = let at = u.there in omega (arith, at, low)
within_stamps (views.Staging epoch ts writes) recorded u high low = let at = u.there in omega (arith, at, low)
within_stamps views.Nothing recorded u high low = let at = u.there in omega (arith, at, low)
within_stamps (views.Committed epoch ts locks) recorded u high low = let f : false ≡ true = u.undecided in absurd cc
within_stamps (views.Aborted epoch why locks) recorded u high low = let f : false ≡ true = u.undecided in absurd cc
