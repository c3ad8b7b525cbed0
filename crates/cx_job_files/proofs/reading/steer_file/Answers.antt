use Rattle.std.proofs.Common.{◌≤◌}
use Rattle.std.specs.Prelude.{All}
use Rattle.cx_text.specs.declared.token.Style.TheVariants as styles
use Rattle.cx_parfile.specs.SteerFile.{steer_file}
use Rattle.cx_job_files.proofs.ReadNames.{tree_read}
use Rattle.cx_job_files.proofs.SteerLaws.{lines_later}
use Rattle.cx_job_files.proofs.ReadingLaws as laws
use Rattle.cx_job_files.proofs.reading.steer_file.Goals as goal

pub returns-clause-follows : goal.returns-clause-follows
returns-clause-follows g c =
    laws.file_passed_from g.H.Shelf styles.Par steer_file.derives c.args.name.now
    c.args.shelf.now c.required_tokens.new.shelf
    c.in_ok-tokens.tokens c.read_steer.result c.named_tree.result c.in_ok-tokens.ensures.follows
    c.read_steer.ensures.answers c.named_tree.ensures

pub returns-clause-later : goal.returns-clause-later
returns-clause-later g c =
    tree_read steer_file.derives (All (λ line. 1 ≤ line.at))
    c.args.name.now c.in_ok-tokens.tokens c.read_steer.result c.named_tree.result
    (λ lines spelled. lines_later c.in_ok-tokens.tokens lines spelled)
    c.read_steer.ensures.answers c.named_tree.ensures
