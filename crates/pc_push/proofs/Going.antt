-- What a machine stands by it stands by later.
use Rattle.std.proofs.Common.{ℕ, ◌+◌, ◌≤◌, List, inl, inr, All, Option, IsTrue, arith}
use Rattle.std.proofs.lemmas.List.Elements.{All-weaker}
use Rattle.std.specs.Option.{option_to_list}
use Rattle.pc_base.specs.declared.actor.ActorId.{ActorId}
use Rattle.pc_base.specs.declared.actor.ActorId.TheVariants as actors
use Rattle.pc_base.specs.declared.transaction.Priority.{Priority}
use Rattle.pc_base.specs.declared.transaction.Who.{Who}
use Rattle.pc_lists.proofs.Anywhere.{any_kept}
use Rattle.pc_proto.specs.declared.event.Event.{Event}
use Rattle.pc_proto.specs.declared.event.Event.TheVariants as events
use Rattle.pc_proto.specs.declared.fate.Goal.{Goal}
use Rattle.pc_proto.specs.declared.meta.TxnMeta.{TxnMeta}
use Rattle.pc_proto.specs.declared.reply.Reply.TheVariants as replies
use Rattle.pc_proto.specs.declared.view.View.{View}
use Rattle.pc_proto.specs.Stamps.{fate_stamps, goal_stamps}
use Rattle.pc_push.specs.declared.progress.Progress.{Progress}
use Rattle.pc_push.specs.declared.progress.Progress.TheVariants as progress
use Rattle.pc_push.specs.PushKnows.{HasMetStaging, IsSettledOrLeft, MayPush, PushKnows, StandsAt}
use Rattle.pc_push.specs.Pushing.{Pushing, holder_resolve, push_of}
use Rattle.pc_world.proofs.Exchange.{ever_later, first_mapped, heard_later, kept_later, later-later, top_later}
use Rattle.pc_world.specs.Exchange.{IsLater, is_message}
use Rattle.pc_world.specs.Known.{Known, known_after}
use Rattle.pc_world.specs.Known.Traffic.{Heard}
use Rattle.pc_world.specs.Known.Transactions.{txn_heard, txn_sent}
use Rattle.pc_world.specs.Send.Push.{ListsRecord, MaySendPush, RecovererPush, SessionPush, StoodInTheWay}
use Rattle.pc_world.specs.Send.Settling.{ShowsFate}

module _ (holder : TxnMeta) (by : Who) (level : Priority) (reading : ℕ) (goal : Goal) where
  session_step : (event : Event) (h : Option Heard) (top high : ℕ) (k : Known) → IsTrue (is_message event) → k.top ≤ top → SessionPush k holder by level reading goal → SessionPush (known_after event h top high k) holder by level reading goal
  session_step (events.Send number range request) h top high k message up may = record {
    t = txn_sent request may.t;
    opened = first_mapped (txn_sent request) k.is_open k.txns may.t may.opened;
    conflict = any_kept (StoodInTheWay holder goal) k.heard_now (option_to_list h) may.conflict;
    whose = may.whose;
    own_level = may.own_level;
    read_now = may.read_now;
  }
  session_step (events.Hear number step) h top high k message up may = record {
    t = txn_heard k.sent h may.t;
    opened = first_mapped (txn_heard k.sent h) k.is_open k.txns may.t may.opened;
    conflict = any_kept (StoodInTheWay holder goal) k.heard_now (option_to_list h) may.conflict;
    whose = may.whose;
    own_level = may.own_level;
    read_now = may.read_now;
  }
  session_step event h top high k message up may = absurd cc

  recoverer_step : (number : ℕ) (event : Event) (h : Option Heard) (top high : ℕ) (k : Known) → IsTrue (is_message event) → k.top ≤ top → RecovererPush number k holder by reading goal → RecovererPush number (known_after event h top high k) holder by reading goal
  recoverer_step number (events.Send sent range request) h top high k message up may = record {
    asked = may.asked;
    was_listed = any_kept (λ h. ListsRecord holder h.reply) k.heard_now (option_to_list h) may.was_listed;
    whose = may.whose;
    to_abort = may.to_abort;
    read_now = may.read_now;
  }
  recoverer_step number (events.Hear sent step) h top high k message up may = record {
    asked = may.asked;
    was_listed = any_kept (λ h. ListsRecord holder h.reply) k.heard_now (option_to_list h) may.was_listed;
    whose = may.whose;
    to_abort = may.to_abort;
    read_now = may.read_now;
  }
  recoverer_step number event h top high k message up may = absurd cc

  row_later : (actor : ActorId) (since now : Known) → IsLater since now → MaySendPush actor since holder by level reading goal → MaySendPush actor now holder by level reading goal
  row_later (actors.Session number) since now later may = kept_later (λ k. SessionPush k holder by level reading goal) session_step since now later may
  row_later (actors.Recoverer number) since now later may = kept_later (λ k. RecovererPush number k holder by reading goal) (recoverer_step number) since now later may
  row_later (actors.Range number) since now later may = absurd may

pub stamps_later : (since now : Known) (stamps : List ℕ) → IsLater since now → All (λ ts. ts ≤ since.top + 1) stamps → All (λ ts. ts ≤ now.top + 1) stamps
stamps_later since now stamps later low =
    let up = top_later since now later in
    All-weaker (λ ts. ts ≤ since.top + 1) (λ ts. ts ≤ now.top + 1) (λ ts h. omega (arith, up, h)) stamps low

pub push_later : (actor : ActorId) (since now : Known) (m : Pushing) → IsLater since now → MayPush actor since m → MayPush actor now m
push_later actor since now m later may = record {
  row = row_later m.holder m.by m.level m.reading m.goal actor since now later may.row;
  stamps = stamps_later since now (goal_stamps m.goal) later may.stamps;
}

module _ (start k later : Known) (m : Pushing) (is : IsLater k later) where
  staging_later : (view : View) → HasMetStaging start k m view → HasMetStaging start later m view
  staging_later view met = record {
    epoch = met.epoch;
    ts = met.ts;
    writes = met.writes;
    is = met.is;
    heard = heard_later start k later (push_of m) (replies.Unsure view) met.heard is;
  }

  done_later : IsSettledOrLeft start k m → IsSettledOrLeft start later m
  done_later (inl was) = inl (record { fate = was.fate; heard = heard_later start k later (holder_resolve m was.fate) replies.Resolved was.heard is })
  done_later (inr left) = inr (record {
    met = left.met;
    staging = staging_later left.met left.staging;
    request = left.request;
    recovers = left.recovers;
    view = left.view;
    heard = heard_later start k later left.request (replies.Status left.view) left.heard is;
    unsettled = left.unsettled;
  })

  pub stands_later : (p : Progress) → StandsAt start k m p → StandsAt start later m p
  stands_later progress.Push stands = tt
  stands_later progress.Refused stands = record { view = stands.view; heard = heard_later start k later (push_of m) (replies.Refused stands.view) stands.heard is }
  stands_later (progress.Unsure view) stands = staging_later view stands
  stands_later (progress.Resolve fate) stands = record {
    row = ever_later (ShowsFate m.holder.id fate) k later is stands.row;
    stamps = stamps_later k later (fate_stamps fate) is stands.stamps;
  }
  stands_later progress.Over stands = done_later stands

-- while the actor only sends and hears
pub goes_on : (actor : ActorId) (start k later : Known) (m : Pushing) → PushKnows actor start k m → IsLater k later → PushKnows actor start later m
goes_on actor start k later m knows is = record {
  may = knows.may;
  since = later-later start k later knows.since is;
  stands = stands_later start k later m is m.progress knows.stands;
}
