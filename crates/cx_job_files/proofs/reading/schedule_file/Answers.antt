use Rattle.cx_text.specs.declared.token.Style.TheVariants as styles
use Rattle.cx_sched.specs.Nodes.{schedule}
use Rattle.cx_job_files.proofs.ReadingLaws as laws
use Rattle.cx_job_files.proofs.reading.schedule_file.Goals as goal

pub returns : goal.returns
returns g c = laws.file_passed_from g.H.Shelf styles.Ccl schedule.derives c.args.name.now
    c.args.shelf.now c.required_tokens.new.shelf
    c.in_ok-tokens.tokens c.read_schedule.result c.named_tree.result c.in_ok-tokens.ensures.follows
    c.read_schedule.ensures.answers c.named_tree.ensures
