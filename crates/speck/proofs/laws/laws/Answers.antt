use Rattle.speck.proofs.Asking.{asking_gives, question_is_next}
use Rattle.speck.proofs.About.{about_grid, of_cells}
use Rattle.speck.proofs.Bare.{places_suffice}
use Rattle.speck.proofs.Consequences.{by_parts, one_count, one_place, refused, significance}
use Rattle.speck.proofs.Length.{survey_length}
use Rattle.speck.proofs.Theorems.{returns as gives-grid, honest, near_always}
use Rattle.speck.proofs.laws.laws.Goals as goal

pub returns : goal.returns
returns c = record {
  asking_gives_the_survey = asking_gives;
  question_is_next = question_is_next;
  questions_are_about_the_grid = about_grid;
  surveys_speak_of_cells_alone = of_cells;
  surveys_give_grids = gives-grid;
  wholes_are_surveys = honest;
  refused_exactly = refused;
  near_after_every_bit = near_always;
  one_place = one_place;
  at_most_86101_bits = survey_length;
  one_plane_count = one_count;
  significance_is_literal = significance;
  significance_by_quarters = by_parts;
  places_suffice = places_suffice;
}
