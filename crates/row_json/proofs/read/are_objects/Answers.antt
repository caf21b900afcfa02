use Rattle.std.proofs.Common.{◌≡◌, true, false, List, ◌∷◌, arith, sym, ◌∙◌, ap, refl}
use Rattle.std.proofs.lemmas.List.{drop_all}
use Rattle.serde_json.specs.View.{items_view, view}
use Rattle.serde_json.specs.declared.value.Value.{Value}
use Rattle.row_json.specs.Reading.{are_objects, is_object}
use Rattle.roster_base.proofs.ListSteps.{next_item}
use Rattle.row_json.proofs.read.are_objects.Goals as goal

no_object : (left rest : List Value) (v : Value) → left ≡ v ∷ rest → is_object (view v) ≡ false → are_objects (items_view left) ≡ false
no_object left rest v l e = rw (l, e) refl

an_object : (left rest : List Value) (v : Value) → left ≡ v ∷ rest → is_object (view v) ≡ true → are_objects (items_view rest) ≡ are_objects (items_view left)
an_object left rest v l e = rw (l, e) refl

pub loop-value-preserved : goal.loop-value-preserved
loop-value-preserved c = record {
  same = an_object _ _ c.value-item.result (next_item c.args.values.now c.loop-value.value-index c.value-item.result c.value-item.result c.loop-value-test.true c.value-item.is) (sym c.is_object.ensures ∙ c.if-not-is_object.false)
      ∙ c.loop-value.invariant.same;
}

pub returns : goal.returns
returns c = sym (ap (λ (vs : List Value). are_objects (items_view vs)) (drop_all c.loop-value.value-index c.args.values.now (omega arith))) ∙ c.loop-value.invariant.same

pub returns-then-not-is_object : goal.returns-then-not-is_object
returns-then-not-is_object c =
    sym (no_object _ _ c.value-item.result (next_item c.args.values.now c.loop-value.value-index c.value-item.result c.value-item.result c.loop-value-test.true c.value-item.is) (sym c.is_object.ensures ∙ c.if-not-is_object.true))
    ∙ c.loop-value.invariant.same
