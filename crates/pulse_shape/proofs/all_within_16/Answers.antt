-- `all_within_16` meets its contract: the call of `all` decides as the definition does.
use Rattle.std.proofs.Common.{◌&&◌, Bool, refl, rules, tests, ◌∙◌}
use Rattle.std.specs.List.{list_all}
use Rattle.std.proofs.lemmas.Iterator.{YieldsList-from_slice}
use Rattle.std.proofs.lemmas.Iterator.Search.{all_from_yields_List}
use Rattle.std.proofs.lemmas.List.Recursion.{same_from_clauses}
use lib.Ieee.{Float}
use Rattle.pulse_shape.specs.Accepted.{within16, all_within16}
use Rattle.pulse_shape.proofs.Sixteen.{within_sixteen}
use Rattle.pulse_shape.proofs.all_within_16.Goals as goal

pub returns : goal.returns
unfolding all_within16 within16
returns c =
    let v = c.args.values.now in
    all_from_yields_List within16 _ _ _ c.all.ensures.ran (YieldsList-from_slice v cc) (λ x b q k. search (rules, tests, within_sixteen x.now))
    ∙ same_from_clauses (list_all within16) all_within16 (λ (x : Float) (y : Bool). within16 x && y) refl (λ _ _. refl) (λ _ _. refl) v
