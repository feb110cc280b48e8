-- In a run the rows of each Tell have no origin: a client is told what was heard, without it.
use Rattle.std.proofs.Common.{ℕ, Bool, true, false, ◌&&◌, not, Option, List, [], ◌∷◌, ◌++◌, map, All, refl, sym, subst}
use Rattle.std.specs.List.{AllByRecursion}
use Rattle.std.specs.Bool.{MatchBool}
use Rattle.std.proofs.lemmas.List.Elements.{All-append, All-from_recursion, All-nil}
use Rattle.pc_base.specs.declared.actor.ActorId.{ActorId}
use Rattle.pc_base.specs.declared.actor.ActorId.TheVariants as actors
use Rattle.pc_base.specs.declared.entry.Entry.{Entry}
use Rattle.pc_base.specs.declared.span.Span.{Span}
use Rattle.pc_proto.specs.declared.answer.Answer.{Answer}
use Rattle.pc_proto.specs.declared.answer.Answer.TheVariants as answers
use Rattle.pc_proto.specs.declared.event.Event.{Event}
use Rattle.pc_proto.specs.declared.event.Event.TheVariants as events
use Rattle.pc_proto.specs.declared.reply.Origin.{Origin}
use Rattle.pc_history.specs.declared.pair.Pair.{Pair}
use Rattle.pc_history.specs.History.{IsFineAfter}
use Rattle.pc_journal.specs.ToldRows.{AnswersBare, HasNoOrigin, TellsBare}
use Rattle.pc_world.specs.Known.{Known}
use Rattle.pc_world.specs.Known.Statements.{Statement}
use Rattle.pc_world.specs.Local.{Head, MayComeNext, MayDo}
use Rattle.pc_world.specs.MayTell.{MayTellIn, is_past_range, needs_txn}
use Rattle.pc_world.specs.Run.{protocol}
use Rattle.pc_world.specs.Tell.Data.{AreRowsOfAll, told_row}
use Rattle.pc_spelling.specs.RunsTellBare.{RunsTellBare}

told_rows_bare : (rows : List (List ℕ × Origin × List ℕ)) → AllByRecursion HasNoOrigin (map told_row rows)
told_rows_bare [] = tt
told_rows_bare (row ∷ rows) = (refl, told_rows_bare rows)

pieces_bare : (k : Known) (pieces : List (ℕ × Span)) (rows : List (List ℕ × Origin × List ℕ)) → AreRowsOfAll k pieces rows → All HasNoOrigin rows
pieces_bare k [] rows none = subst (All HasNoOrigin) (sym none) (All-nil HasNoOrigin)
pieces_bare k (p ∷ ps) rows h =
    subst (All HasNoOrigin) (sym h.3) (All-append HasNoOrigin (map told_row h.0) h.1 (All-from_recursion HasNoOrigin (map told_row h.0) (told_rows_bare h.0)) (pieces_bare k ps h.1 h.4))

-- Which of three facts holds, by two tests.
one_of : (a b : Bool) (P Q R S : Type 0) → (P → S) → (Q → S) → (R → S) → MatchBool a P (MatchBool b Q R) → S
one_of true b P Q R S p q r h = p h
one_of false true P Q R S p q r h = q h
one_of false false P Q R S p q r h = r h

answer_bare : (splits : List (List ℕ)) (actor : ActorId) (k : Known) (s : Statement) (answer : Answer) → MayTellIn splits actor k s answer → AnswersBare answer
answer_bare splits actor k s (answers.Rows rows) h =
    one_of (needs_txn s.call && not k.is_open) (is_past_range s) _ _ _ (All HasNoOrigin rows) (λ e. absurd cc) (λ e. absurd cc) (λ m. pieces_bare k _ rows m.heard) h
answer_bare splits actor k s (answers.Begun id ts) h = tt
answer_bare splits actor k s (answers.Value value) h = tt
answer_bare splits actor k s answers.Written h = tt
answer_bare splits actor k s (answers.Committed id ts) h = tt
answer_bare splits actor k s (answers.RolledBack id why) h = tt
answer_bare splits actor k s answers.Learnt h = tt
answer_bare splits actor k s answers.NotYet h = tt
answer_bare splits actor k s answers.Done h = tt
answer_bare splits actor k s (answers.Blocked holder) h = tt
answer_bare splits actor k s (answers.Unavailable faults) h = tt
answer_bare splits actor k s (answers.Aborted why) h = tt
answer_bare splits actor k s (answers.Restart key ts) h = tt
answer_bare splits actor k s (answers.Unknown id) h = tt
answer_bare splits actor k s (answers.Moved ts) h = tt
answer_bare splits actor k s (answers.Clock reading) h = tt
answer_bare splits actor k s answers.NoTxn h = tt

done_bare : (head : Head) (actor : ActorId) (k : Known) (event : Event) → MayDo head actor k event → TellsBare event
done_bare head actor k (events.Ask call reading) h = tt
done_bare head actor k (events.Send number range request) h = tt
done_bare head actor k (events.Eval sender number told) h = tt
done_bare head actor k (events.Hear number step) h = tt
done_bare head actor k (events.Tell answer) h = answer_bare head.splits actor k h.s answer h.told
done_bare head actor k (events.Meet id step) h = tt

evaluated_bare : (head : Head) (range : ℕ) (own : List (Pair Event)) (event : Event) (named : Option (Entry Event)) → MayComeNext head (actors.Range range) own event named → TellsBare event
evaluated_bare head range own (events.Ask call reading) named h = tt
evaluated_bare head range own (events.Send number at request) named h = tt
evaluated_bare head range own (events.Eval sender number told) named h = tt
evaluated_bare head range own (events.Hear number step) named h = tt
evaluated_bare head range own (events.Tell answer) named h = absurd h
evaluated_bare head range own (events.Meet id step) named h = tt

next_bare : (head : Head) (actor : ActorId) (own : List (Pair Event)) (event : Event) (named : Option (Entry Event)) → MayComeNext head actor own event named → TellsBare event
next_bare head (actors.Range range) own event named h = evaluated_bare head range own event named h
next_bare head (actors.Session number) own event named h = done_bare head (actors.Session number) _ event h
next_bare head (actors.Recoverer number) own event named h = done_bare head (actors.Recoverer number) _ event h

after_bare : (head : Head) (before history : List (Entry Event)) → IsFineAfter (protocol head) before history → AllByRecursion (λ (entry : Entry Event). TellsBare entry.event) history
after_bare head before [] h = tt
after_bare head before (e ∷ es) h = (next_bare head e.actor _ e.event _ h.0.local.next, after_bare head (before ++ (e ∷ [])) es h.1)

pub runs_tell_bare : RunsTellBare
runs_tell_bare head history run = All-from_recursion (λ (entry : Entry Event). TellsBare entry.event) history (after_bare head [] history run)
