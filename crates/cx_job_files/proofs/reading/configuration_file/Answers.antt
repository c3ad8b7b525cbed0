use Rattle.cx_text.specs.declared.token.Style.TheVariants as styles
use Rattle.cx_conf.specs.Conf.{configuration, no_configuration}
use Rattle.cx_job_files.proofs.ReadingLaws as laws
use Rattle.cx_job_files.proofs.reading.configuration_file.Goals as goal

pub returns-in-Some : goal.returns-in-Some
returns-in-Some g c = laws.or_passed_from g.H.Shelf no_configuration styles.Ccl
    configuration.derives c.args.name.now
    c.args.shelf.now c.tokens_if_any.new.shelf
    c.in-Some.tokens c.read_configuration.result c.named_tree.result
    (rw c.in-Some.is at c.in_ok-tokens.ensures)
    c.read_configuration.ensures.answers c.named_tree.ensures
