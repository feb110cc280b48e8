use Rattle.std.proofs.Common.{◌≡◌, ℕ, List, Result, Ok, Err, OnErr, OnOk, sym, ap, subst, ◌∙◌, rules}
use Rattle.std.proofs.lemmas.Map.Views.{All-values-insert_entry}
use Rattle.std.proofs.lemmas.Result.{IfOk-weaker, on_ok_weaker}
use Rattle.std.specs.BTreeMap.{insert_entry, is_at}
use Rattle.std.specs.Cmp.Lexicographic.{slice_cmp}
use Rattle.std.specs.Map.{lookup}
use Rattle.std.specs.Option.{UnwrapsOrElse}
use Rattle.std.specs.Ordering.{nat_cmp}
use Rattle.pc_proto.specs.declared.record.Intent.{Intent}
use Rattle.pc_proto.specs.Intents.{fresh, intent_at}
use Rattle.pc_intent.proofs.Putting.{answered, laid_there_or_first, left_there}
use Rattle.pc_intent.specs.Coming.{comes_to}
use Rattle.pc_world.specs.Evaluation.IntentChange.{intents_with}
use Rattle.pc_world.specs.Evaluation.Put.{put_change, put_reply}
use Rattle.pc_intent.proofs.Rising.{in_table, put_rises, there_or_first_rises}
use Rattle.pc_intent.specs.Rising.{WritesRise}
use Rattle.pc_intent.proofs.intents.Intents.put.Goals as goal

both-err : {T E P Q R : Type 0} (r : Result T E) → (P → Q → R) → OnErr r P → OnErr r Q → OnErr r R
both-err (Ok x) f p q = tt
both-err (Err e) f p q = f p q

pub returns-clause-reply : goal.returns-clause-reply
returns-clause-reply c =
    let key = c.args.key.now in
    let es = c.self.inside.entries.entries in
    let i : Intent = c.in_ok-intent.intent.now in
    let stands : UnwrapsOrElse (lookup (is_at (slice_cmp nat_cmp key)) es) (λ (i : Intent). i ≡ fresh c.args.meta.now c.args.seq c.args.ts c.args.value.now) i = search rules in
    IfOk-weaker c.put_there.result _ _
    (λ made is. is ∙ (answered c.args.meta.now c.args.seq c.args.ts key c.args.value.now es i c.put_there.new.intent c.self.invariant.keys stands
    ∙ ap (λ (es : List (List ℕ × Intent)). put_reply key (comes_to c.args.meta.now c.args.seq c.args.ts c.args.value.now (intent_at key es))) c.self.view_is))
    c.put_there.ensures.reply

pub returns-clause-after : goal.returns-clause-after
returns-clause-after c =
    let key = c.args.key.now in
    let es = c.self.inside.entries.entries in
    let i : Intent = c.in_ok-intent.intent.now in
    let new : Intent = c.put_there.new.intent in
    let e = c.in_ok-place.ensures.update.1 new in
    on_ok_weaker c.put_there.result
    (λ made.
    let whole : insert_entry (slice_cmp nat_cmp) es key new ≡ intents_with key (put_change (comes_to c.args.meta.now c.args.seq c.args.ts c.args.value.now (intent_at key c.args.self.now))) c.args.self.now =
    laid_there_or_first c.args.meta.now c.args.seq c.args.ts key c.args.value.now es i new c.self.invariant.keys (search rules) made
    ∙ ap (λ (es : List (List ℕ × Intent)). intents_with key (put_change (comes_to c.args.meta.now c.args.seq c.args.ts c.args.value.now (intent_at key es))) es) c.self.view_is in
    search rules)
    c.put_there.ensures.after

pub returns-clause-err : goal.returns-clause-err
returns-clause-err c =
    let key = c.args.key.now in
    let es = c.self.inside.entries.entries in
    let i : Intent = c.in_ok-intent.intent.now in
    let new : Intent = c.put_there.new.intent in
    let e = c.in_ok-place.ensures.update.1 new in
    both-err c.put_there.result
    (λ same not.
    let whole : insert_entry (slice_cmp nat_cmp) es key new ≡ c.args.self.now = left_there c.args.meta.now c.args.seq c.args.ts key c.args.value.now es i new c.self.invariant.keys (search rules) same not ∙ c.self.view_is in
    search rules)
    c.put_there.ensures.err c.put_there.ensures.stands

pub put_there-requires : goal.put_there-requires
put_there-requires c =
    let key = c.args.key.now in
    let es = c.self.inside.entries.entries in
    let i : Intent = c.in_ok-intent.intent.now in
    let stands : UnwrapsOrElse (lookup (is_at (slice_cmp nat_cmp key)) es) (λ (i : Intent). i ≡ fresh c.args.meta.now c.args.seq c.args.ts c.args.value.now) i = search rules in
    there_or_first_rises (is_at (slice_cmp nat_cmp key)) es c.args.meta.now c.args.seq c.args.ts c.args.value.now i c.self.invariant.writes stands

by-result : {T E P Q R : Type 0} (r : Result T E) → OnOk r P → OnErr r Q → (P → R) → (Q → R) → R
by-result (Ok x) ok err f g = f ok
by-result (Err e) ok err f g = g err

pub invariant_of-self-2 : goal.invariant_of-self-2
invariant_of-self-2 c =
    let key = c.args.key.now in
    let es = c.self.inside.entries.entries in
    let i : Intent = c.in_ok-intent.intent.now in
    let new : Intent = c.put_there.new.intent in
    let stands : UnwrapsOrElse (lookup (is_at (slice_cmp nat_cmp key)) es) (λ (i : Intent). i ≡ fresh c.args.meta.now c.args.seq c.args.ts c.args.value.now) i = search rules in
    let rise : WritesRise i = there_or_first_rises (is_at (slice_cmp nat_cmp key)) es c.args.meta.now c.args.seq c.args.ts c.args.value.now i c.self.invariant.writes stands in
    let rises : WritesRise new = by-result c.put_there.result c.put_there.ensures.after c.put_there.ensures.err
    (λ made. subst WritesRise (sym made) (put_rises c.args.meta.now c.args.seq c.args.ts c.args.value.now i rise))
    (λ same. subst WritesRise (sym same) rise) in
    let e = c.in_ok-place.ensures.update.1 new in
    record {
      keys = search rules;
      writes = in_table (insert_entry (slice_cmp nat_cmp) es key new) _ (search rules) (All-values-insert_entry (slice_cmp nat_cmp) key new WritesRise es c.self.invariant.writes rises);
    }
