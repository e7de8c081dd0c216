-- Both tables have their nearest numbers, by one test over each whole table, which antt computes.
use mathlib.Core.Path.{refl}
use lib.Dec.{T}
use Rattle.series.specs.Tables.{sines, arcs}
use Rattle.series.specs.Nearest.{pi_bracket, near_sin, near_atan, Nearest}
use Rattle.series.proofs.TableTest.{all_from, each}

pi_pass : T pi_bracket
unfolding pi_bracket
pi_pass = tt

sines_pass : T (all_from near_sin sines 0)
unfolding near_sin sines
sines_pass = tt

arcs_pass : T (all_from near_atan arcs 0)
unfolding near_atan arcs
arcs_pass = tt

pub nearest : Nearest
unfolding sines arcs
nearest = record {
  pi = pi_pass;
  sine_length = refl;
  sine = each near_sin sines sines_pass;
  arctangent_length = refl;
  arctangent = each near_atan arcs arcs_pass;
}
