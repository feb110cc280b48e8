-- What a machine stands by it stands by later.
use Rattle.std.proofs.Common.{◌≡◌, ℕ, ◌≤◌, List, find, take, Option, None, Some, IsTrue, sym, ap, ◌∙◌, subst, arith}
use Rattle.std.proofs.lemmas.List.Elements.{All-nil, All-weaker}
use Rattle.std.proofs.lemmas.List.Folds.{find-append}
use Rattle.std.specs.Option.{option_and_then, option_or}
use Rattle.pc_base.specs.declared.actor.ActorId.{ActorId}
use Rattle.pc_base.specs.declared.actor.ActorId.TheVariants as actors
use Rattle.pc_base.specs.declared.transaction.TxnId.{TxnId}
use Rattle.pc_base.specs.declared.transaction.Who.{Who}
use Rattle.pc_proto.specs.declared.event.Event.{Event}
use Rattle.pc_proto.specs.declared.event.Event.TheVariants as events
use Rattle.pc_proto.specs.declared.fate.Finding.{Finding}
use Rattle.pc_proto.specs.declared.fate.Finding.TheVariants as findings
use Rattle.pc_proto.specs.declared.reply.Reply.TheVariants as replies
use Rattle.pc_proto.specs.Requests.{subject_anchor}
use Rattle.pc_recover.specs.declared.progress.Progress.{Progress}
use Rattle.pc_recover.specs.declared.progress.Progress.TheVariants as progress
use Rattle.pc_recover.specs.RecoverKnows.{AreFound, HasFound, IsMissing, MayRecover, RecoverKnows, RecoveryStands}
use Rattle.pc_recover.specs.Recovering.{Recovering, query_of, recover_of}
use Rattle.pc_world.proofs.Exchange.{ever_later, first_mapped, has_more, heard_later, kept_later, later-itself, later-later, top_later}
use Rattle.pc_world.specs.Exchange.{HeardSince, IsLater, is_message}
use Rattle.pc_world.specs.Known.{Known, known_after}
use Rattle.pc_world.specs.Known.Traffic.{Heard}
use Rattle.pc_world.specs.Known.Transactions.{txn_heard, txn_sent}
use Rattle.pc_world.specs.Send.Recovery.{IsOwnName, MetStaging}
use Rattle.pc_world.specs.Views.{anchor_heard, shows_view}

-- A session's open transaction stays the same while it sends and hears.
session_step : (number : ℕ) (by : Who) (event : Event) (h : Option Heard) (top high : ℕ) (k : Known) → IsTrue (is_message event) → k.top ≤ top → IsOwnName (actors.Session number) k by → IsOwnName (actors.Session number) (known_after event h top high k) by
session_step number by (events.Send sent range request) h top high k message up (t, opened, whose) = (txn_sent request t, first_mapped (txn_sent request) k.is_open k.txns t opened, whose)
session_step number by (events.Hear sent step) h top high k message up (t, opened, whose) = (txn_heard k.sent h t, first_mapped (txn_heard k.sent h) k.is_open k.txns t opened, whose)
session_step number by event h top high k message up own = absurd cc

own_later : (actor : ActorId) (by : Who) (since now : Known) → IsLater since now → IsOwnName actor since by → IsOwnName actor now by
own_later (actors.Session number) by since now later own = kept_later (λ k. IsOwnName (actors.Session number) k by) (session_step number by) since now later own
own_later (actors.Recoverer number) by since now later own = own
own_later (actors.Range number) by since now later own = absurd own

-- the anchor that was heard stays: that of the first view
anchor_found : (anchor : List ℕ) (one two : Option Heard) → option_and_then (λ h. subject_anchor h.request) one ≡ Some anchor → option_and_then (λ h. subject_anchor h.request) (option_or one two) ≡ Some anchor
anchor_found anchor (Some x) two h = h
anchor_found anchor None two h = absurd cc

anchor_later : (id : TxnId) (anchor : List ℕ) (since now : Known) → IsLater since now → anchor_heard id since.heard ≡ Some anchor → anchor_heard id now.heard ≡ Some anchor
anchor_later id anchor since now later h =
    let more = has_more since now later in
    ap (anchor_heard id) more.ever
    ∙ ap (option_and_then (λ h. subject_anchor h.request)) (find-append (shows_view id) since.heard more.more)
    ∙ anchor_found anchor (find (shows_view id) since.heard) (find (shows_view id) more.more) h

pub may_later : (actor : ActorId) (since now : Known) (m : Recovering) → IsLater since now → MayRecover actor since m → MayRecover actor now m
may_later actor since now m later may = record {
  own = own_later actor m.by since now later may.own;
  staging = ever_later (MetStaging m.holder.id m.epoch m.ts m.writes) since now later may.staging;
  anchored = anchor_later m.holder.id m.holder.anchor since now later may.anchored;
  stamps = let up = top_later since now later in let low = may.stamps in omega (arith, up, low);
}

module _ (start k later : Known) (m : Recovering) (is : IsLater k later) where
  found_later : (writes : List (List ℕ × ℕ)) → AreFound start k m writes → AreFound start later m writes
  found_later writes found =
      All-weaker (λ w. HeardSince start k (query_of m w) replies.Found) (λ w. HeardSince start later (query_of m w) replies.Found)
      (λ w heard. heard_later start k later (query_of m w) replies.Found heard is) writes found

  missing_later : (key : List ℕ) → IsMissing start k m key → IsMissing start later m key
  missing_later key missing = record {
    seq = missing.seq;
    listed = missing.listed;
    heard = heard_later start k later (query_of m (key, missing.seq)) replies.Missing missing.heard is;
  }

  finding_later : (finding : Finding) → HasFound start k m finding → HasFound start later m finding
  finding_later findings.All found = found_later m.writes found
  finding_later (findings.Missing key by) (own, missing) = (own, missing_later key missing)

  pub stands_later : (p : Progress) → RecoveryStands start k m p → RecoveryStands start later m p
  stands_later (progress.Found found) stands = found_later (take found m.writes) stands
  stands_later (progress.Missing key) stands = missing_later key stands
  stands_later (progress.Over view) stands = record {
    finding = stands.finding;
    found = finding_later stands.finding stands.found;
    heard = heard_later start k later (recover_of m stands.finding) (replies.Status view) stands.heard is;
    changed = stands.changed;
  }

-- while the actor only sends and hears
pub goes_on : (actor : ActorId) (start k later : Known) (m : Recovering) → RecoverKnows actor start k m → IsLater k later → RecoverKnows actor start later m
goes_on actor start k later m knows is = record {
  may = knows.may;
  since = later-later start k later knows.since is;
  stands = stands_later start k later m is m.progress knows.stands;
}

-- and from the first
pub new_knows : (actor : ActorId) (k : Known) (m : Recovering) → m.progress ≡ progress.Found 0 → MayRecover actor k m → RecoverKnows actor k k m
new_knows actor k m first may = record {
  may = may;
  since = later-itself k;
  stands = subst (RecoveryStands k k m) (sym first) (All-nil (λ w. HeardSince k k (query_of m w) replies.Found));
}
