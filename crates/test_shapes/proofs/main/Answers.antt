-- `main` meets its contract.
use Rattle.std.proofs.Common.{◌≤◌, length, sym, length-take-le, rules}
use Rattle.test_shapes.proofs.main.Goals as goal

pub slice_bounds-prototype-end : goal.slice_bounds-prototype-end
slice_bounds-prototype-end c =
    let h : 1486 ≤ length c.lowpass-taps.result = search rules in
    sym (length-take-le 1486 c.lowpass-taps.result h)
