-- Document 01's example line holds, and joints break where they should: all is computed.
use mathlib.Core.Path.{refl}
use lib.Ieee.{of_bits, of_fields, of_int, add, sub, mul, div, neg, sum, round, units, odd, size, span, climb, le, lt, eq}
use Rattle.scalar.specs.Scalar.{is_finite, outside}
use Rattle.root.specs.Root.{root_of, root_units, floor_root, digits}
use Rattle.vector.specs.Vector.{add_of, sub_of, neg_of, scale_of, div_of, cross_of, dot_of, length_squared_of, length_of}
use Rattle.vector.specs.Matrix.{tensor_times, of_quat, transpose_of, turned_tensor}
use Rattle.vector.specs.Rotation.{normalized, divided_by, norm_of, product_of, inverse_of, vector_part, turn_of, of_scaled_axis}
use Rattle.solver_body.specs.Body.{solver_body_of, unlocked}
use Rattle.tick.specs.Joint.{overloaded}
use Rattle.tick.specs.Body.{turned_body, angular_change, integrated, finished_body}
use Rattle.numbers.specs.Lists.{all, concat, each, after}
use Rattle.card.specs.Format.{bits_at, numbers_at, records_at, any_cell, out_of}
use Rattle.card.specs.Card.{edition_of, card_of}
use Rattle.card.specs.Checks as checks
use Rattle.loader.specs.Linkage.{body_in, linkage_of}
use Rattle.state.specs.State.{body_from, start_state, bad_numbers, bad_marks}
use Rattle.tick.specs.Tick.{turned_linkage, loaded, warm_started, pre_solve_of, solve_pass, new_body, new_state, stopped}
use Rattle.tick.specs.Run.{tick_of, tick_next, run_of}
use Rattle.tick.specs.Examples.{Examples}

pub examples : Examples
unfolding of_bits of_fields of_int add sub mul div neg sum round units odd size span climb le lt eq is_finite outside root_of root_units floor_root digits add_of sub_of neg_of scale_of div_of cross_of dot_of length_squared_of length_of normalized divided_by norm_of product_of inverse_of vector_part turn_of of_scaled_axis tensor_times of_quat transpose_of turned_tensor solver_body_of unlocked turned_body angular_change integrated finished_body all concat each after bits_at numbers_at records_at any_cell out_of edition_of card_of checks.any checks.off_unit body_in linkage_of body_from start_state bad_numbers bad_marks turned_linkage loaded warm_started pre_solve_of solve_pass new_body new_state stopped tick_of tick_next run_of overloaded
examples =
    record {
      done = refl;
      ticks = refl;
      pose = refl;
      under = refl;
      equal = refl;
      over = refl;
      none = refl;
      minus_none = refl;
      largest = refl;
      under_240 = refl;
      equal_240 = refl;
    }
