-- The samples' ticks: all is computed.
use mathlib.Core.Path.{refl}
use lib.Ieee.{of_bits, of_fields, of_int, add, sub, mul, div, neg, rem, sum, round, units, odd, size, span, climb, le, lt, eq, to_unsigned, is_nan, to_bits}
use Rattle.scalar.specs.Scalar.{bits_of, min_of, max_of, clamp_of, rem_euclid_of, is_finite, outside}
use Rattle.root.specs.Root.{root_of, root_units, floor_root, digits}
use Rattle.series.specs.Tables.{sines, arcs}
use Rattle.trig.specs.Interpolation.{over_unit, interpolated}
use Rattle.trig.specs.Sine.{sin_small, cos_small, sin_in_reach, sin_of, scaled_of, table_sine, carried, cos_in_reach, cos_of}
use Rattle.trig.specs.Arctangent.{atan2_of, angle_of, half_plane_angle, quadrant_angle, atan_of, atan_small, atan_at, within_one, asin_of}
use Rattle.vector.specs.Vector.{add_of, sub_of, neg_of, scale_of, times_of, div_of, dot_of, cross_of, length_squared_of, length_of, max_element, clamp_length_max, any_orthonormal, any_orthogonal, signum}
use Rattle.vector.specs.Rotation.{vector_part, product_of, inverse_of, normalized, divided_by, norm_of, turn_of, of_scaled_axis, of_axis_angle, of_angle_in_reach}
use Rattle.vector.specs.Matrix.{tensor_times, of_quat, matrix_times, transpose_of, turned_tensor}
use Rattle.joints.specs.Limit.{distance_correction, axis_correction, obtuse, wrapped, angle_about, angle_correction}
use Rattle.joints.specs.Motor.{motor_lagrange, velocity_change, capped, unless_off}
use Rattle.solver_body.specs.Body.{solver_body_of, unlocked, effective_inv_mass}
use Rattle.xpbd.specs.Multiplier.{lagrange_update}
use Rattle.xpbd.specs.Positional.{anchor_arm, center_difference_of, separation_of, generalized_inverse_mass, weight, impulse_applied, pushed, delta_rot_of, pulled}
use Rattle.xpbd.specs.Angular.{angular_inverse_mass, angular_impulse_applied, turned, angular_delta_rot}
use Rattle.xpbd.specs.FixedAngle.{rotation_difference_of}
use Rattle.xpbd_joints.specs.Revolute.{spun, revolute_warmed, wrapped_error, hinge_angle, angular_motor_given}
use Rattle.xpbd_joints.specs.Prismatic.{pushed_by, prismatic_warmed, linear_motor_given, free_axis_correction, slide_correction}
use Rattle.xpbd_joints.specs.Spherical.{swing_correction, perpendicular, max_twist, twist_correction}
use Rattle.xpbd_joints.specs.Stage.{correction_of, multiplier_at, total_change, after_of}
use Rattle.xpbd_joints.specs.Steps.{steps_of, run, events, warmed}
use Rattle.numbers.specs.Lists.{all, concat, each, after}
use Rattle.card.specs.Format.{bits_at, numbers_at, records_at, any_cell, out_of}
use Rattle.card.specs.Card.{kind_at, edition_of, card_of}
use Rattle.card.specs.Checks as checks
use Rattle.loader.specs.Linkage.{body_in, model_in, angular_motor_in, linear_motor_in, fixed_in, revolute_in, prismatic_in, spherical_in, distance_in, kind_in, linkage_of}
use Rattle.state.specs.State.{body_from, totals_from, broken_at, start_state, bad_numbers, bad_mark, bad_marks}
use Rattle.tick.specs.Body.{turned_body, integrated, angular_change, finished_body}
use Rattle.tick.specs.Joint.{prepared_numbers, overloaded}
use Rattle.tick.specs.Tick.{turned_linkage, steps, loaded, warm_started, pre_solve_of, solve_next, solve_pass, events_at, new_body, breaks, new_state, stopped}
use Rattle.tick.specs.Run.{tick_of}
use Rattle.demand.specs.Sample.{Sample}

pub sample_holds : Sample
unfolding of_bits of_fields of_int add sub mul div neg rem sum round units odd size span climb le lt eq to_unsigned is_nan to_bits bits_of min_of max_of clamp_of rem_euclid_of is_finite outside root_of root_units floor_root digits sines arcs over_unit interpolated sin_small cos_small sin_in_reach sin_of scaled_of table_sine carried cos_in_reach cos_of atan2_of angle_of half_plane_angle quadrant_angle atan_of atan_small atan_at within_one asin_of add_of sub_of neg_of scale_of times_of div_of dot_of cross_of length_squared_of length_of max_element clamp_length_max any_orthonormal any_orthogonal signum vector_part product_of inverse_of normalized divided_by norm_of turn_of of_scaled_axis of_axis_angle of_angle_in_reach tensor_times of_quat matrix_times distance_correction axis_correction obtuse wrapped angle_about angle_correction motor_lagrange velocity_change capped unless_off solver_body_of unlocked effective_inv_mass lagrange_update anchor_arm center_difference_of separation_of generalized_inverse_mass weight impulse_applied pushed delta_rot_of pulled angular_inverse_mass angular_impulse_applied turned angular_delta_rot rotation_difference_of spun revolute_warmed wrapped_error hinge_angle angular_motor_given pushed_by prismatic_warmed linear_motor_given free_axis_correction slide_correction swing_correction perpendicular max_twist twist_correction correction_of multiplier_at total_change after_of steps_of run events warmed all concat each after bits_at numbers_at records_at any_cell out_of kind_at edition_of card_of body_in model_in angular_motor_in linear_motor_in fixed_in revolute_in prismatic_in spherical_in distance_in kind_in linkage_of body_from totals_from broken_at start_state bad_numbers bad_mark bad_marks integrated angular_change finished_body prepared_numbers overloaded steps loaded warm_started pre_solve_of solve_next solve_pass events_at new_body breaks new_state stopped tick_of checks.any checks.off_unit transpose_of turned_tensor turned_body turned_linkage
sample_holds =
    record {
      done = refl;
      fixed = refl;
      hinge = refl;
      slide = refl;
      ball = refl;
      tethered = refl;
      capped = refl;
      stiff = refl;
      softer = refl;
    }
