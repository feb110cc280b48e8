-- What was heard of a transaction is so of its record: a view stays true of it, and a reply was given as it was at some time before.
use Rattle.std.proofs.Common.{◌≡◌, ℕ, ◌==◌, true, false, List, ◌++◌, Option, None, Some, Contains, IsTrue, sym, ap, subst, ◌∙◌}
use Rattle.std.proofs.lemmas.Bool.{and_parts, eqb-true}
use Rattle.std.specs.Option.{option_map_or}
use Rattle.pc_base.specs.declared.actor.ActorId.{ActorId}
use Rattle.pc_base.specs.declared.entry.Entry.{Entry}
use Rattle.pc_base.specs.declared.transaction.TxnId.{TxnId}
use Rattle.pc_implicit.proofs.Commits.{committed-view}
use Rattle.pc_implicit.proofs.Hearing.{IsSo, heard_is_so}
use Rattle.pc_implicit.proofs.Homes.{home_is}
use Rattle.pc_implicit.proofs.Lift.{over}
use Rattle.pc_implicit.proofs.Metas.{subject_anchored}
use Rattle.pc_implicit.proofs.Views.{Stands, places_go_on, subject-is}
use Rattle.pc_implicit.specs.Decided.{StaysTrue, decision}
use Rattle.pc_implicit.specs.Replied.{WasReplied}
use Rattle.pc_implicit.specs.Writes.{home_of}
use Rattle.pc_lists.proofs.Each.{each-contains}
use Rattle.pc_proto.specs.declared.event.Event.{Event}
use Rattle.pc_proto.specs.declared.event.Event.TheVariants as events
use Rattle.pc_proto.specs.declared.record.Standing.TheVariants as standings
use Rattle.pc_proto.specs.declared.reply.Reply.{Reply}
use Rattle.pc_proto.specs.declared.request.Request.{Request}
use Rattle.pc_proto.specs.declared.view.View.{View}
use Rattle.pc_proto.specs.declared.view.View.TheVariants as views
use Rattle.pc_proto.specs.RecordRows.Reached.{status_of}
use Rattle.pc_proto.specs.Replies.{view_in}
use Rattle.pc_proto.specs.Requests.{is_about, subject}
use Rattle.pc_proto.specs.Views.{is_committed_at, is_staging_at}
use Rattle.pc_world.specs.After.{known_at, place_at, state_at}
use Rattle.pc_world.specs.Evaluation.{reply as reply_of}
use Rattle.pc_world.specs.Known.Traffic.{Heard}
use Rattle.pc_world.specs.Local.{Head}
use Rattle.pc_world.specs.Run.{IsRun}
use Rattle.pc_world.specs.Views.{WasCommitted}

-- the view that shows a staging
pub staging-view : (epoch ts : ℕ) (o : Option View) → option_map_or (is_staging_at epoch ts) o false ≡ true → (at : ℕ) × (writes : List (List ℕ × ℕ)) × (o ≡ Some (views.Staging epoch at writes)) × (at ≡ ts)
staging-view epoch ts None h = absurd cc
staging-view epoch ts (Some (views.Staging at_epoch at writes)) h =
    let parts = and_parts (at_epoch == epoch) (at == ts) h in
    (at, writes, ap (λ n. Some (views.Staging n at writes)) (eqb-true at_epoch epoch parts.0), eqb-true at ts parts.1)
staging-view epoch ts (Some view) h = absurd cc

module _ (head : Head) (history : List (Entry Event)) where
  -- what an actor heard was replied
  pub replied_of : (actor : ActorId) (h : Heard) → IsSo head history actor h → (request : Request) (reply : Reply) → h.request ≡ request → h.reply ≡ reply → WasReplied history request reply
  replied_of actor h so request reply asked told = record {
    send = so.send;
    listed = so.listed;
    number = h.number;
    range = so.range;
    sends = so.sends ∙ ap (events.Send h.number so.range) asked;
    eval = so.eval;
    evaluated = so.evaluated;
    told = so.told ∙ ap (events.Eval actor h.number) told ∙ ap (λ a. events.Eval a h.number reply) (sym so.whose);
  }

  -- The request was answered as the transaction's record was at some time before.
  pub record AskedHome (id : TxnId) (request : Request) (reply : Reply) : Type 0 where
    pub front : List (Entry Event)
    pub back : List (Entry Event)
    pub range : ℕ
    pub whole : front ++ back ≡ history
    pub answers : reply ≡ reply_of request (state_at head range front)
    pub stands : Stands (place_at head range id front) (home_of head id history)

  module _ (run : IsRun head history) where
    there_is_home : (actor : ActorId) (h : Heard) (so : IsSo head history actor h) (id : TxnId) → subject h.request ≡ Some id → place_at head so.range id history ≡ home_of head id history
    there_is_home actor h so id about =
        let anchored = subject_anchored head history run so.send so.listed h.number so.range h.request id so.sends about in
        ap (λ r. place_at head r id history) anchored.there ∙ sym (home_is head id history anchored.anchor anchored.anchored)

    -- what was heard to a request to a record was answered by it
    pub asked_home : (actor : ActorId) (h : Heard) → IsSo head history actor h → (id : TxnId) (request : Request) → h.request ≡ request → subject request ≡ Some id → AskedHome id request h.reply
    asked_home actor h so id request asked about =
        let there = there_is_home actor h so id (ap subject asked ∙ about) in
        let stands : Stands (place_at head so.range id so.front) (place_at head so.range id history) =
        subst (λ x. Stands (place_at head so.range id so.front) (place_at head so.range id x)) so.whole (over _ (places_go_on id) head so.range so.front so.back) in
        record {
          front = so.front;
          back = so.back;
          range = so.range;
          whole = so.whole;
          answers = so.answers ∙ ap (λ r. reply_of r (state_at head so.range so.front)) asked;
          stands = subst (Stands (place_at head so.range id so.front)) there stands;
        }

    -- what an actor knows to be heard is so
    pub so_of : (actor : ActorId) (h : Heard) → Contains (known_at head actor history).heard h → IsSo head history actor h
    so_of actor h there = each-contains (IsSo head history actor) (known_at head actor history).heard h (heard_is_so head history run actor) there

    -- a view of a transaction that was heard is true of its record
    pub view_is_so : (actor : ActorId) (h : Heard) → IsSo head history actor h → (id : TxnId) (view : View) → IsTrue (is_about id h.request) → view_in h.reply ≡ Some view → StaysTrue view (home_of head id history)
    view_is_so actor h so id view about told =
        let subject_is : subject h.request ≡ Some id = subject-is id (subject h.request) about in
        subst (StaysTrue view) (there_is_home actor h so id subject_is) (so.shows id view subject_is told)

    -- what was heard to be committed is decided so
    pub heard_decides : (actor : ActorId) (id : TxnId) (ts : ℕ) → WasCommitted (known_at head actor history).heard id ts → (epoch : ℕ) × (decision (home_of head id history) ≡ Some (status_of standings.Committed epoch ts))
    heard_decides actor id ts (n, h, inside, at, shows) =
        let parts = and_parts (is_about id h.request) (option_map_or (is_committed_at ts) (view_in h.reply) false) shows in
        let view = committed-view ts (view_in h.reply) parts.1 in
        (view.0, view_is_so actor h (so_of actor h (n, inside, at)) id (views.Committed view.0 ts view.1) parts.0 view.2)
