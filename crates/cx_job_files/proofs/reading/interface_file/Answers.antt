use Rattle.cx_text.specs.declared.token.Style.TheVariants as styles
use Rattle.cx_iface.specs.File.{interface}
use Rattle.cx_job_files.specs.NamesAndLevels.{HasNames}
use Rattle.cx_job_files.proofs.ReadNames.{tree_read, interface_named}
use Rattle.cx_job_files.proofs.ReadingLaws as laws
use Rattle.cx_job_files.proofs.reading.interface_file.Goals as goal

pub returns-clause-follows : goal.returns-clause-follows
returns-clause-follows g c = laws.file_passed_from g.H.Shelf styles.Ccl interface c.args.name.now
    c.args.shelf.now c.required_tokens.new.shelf
    c.in_ok-tokens.tokens c.read_interface.result c.named_tree.result c.in_ok-tokens.ensures.follows
    c.read_interface.ensures.answers c.named_tree.ensures

pub returns-clause-read : goal.returns-clause-read
returns-clause-read g c =
    tree_read interface HasNames c.args.name.now c.in_ok-tokens.tokens c.read_interface.result
    c.named_tree.result (λ i spelled.
    interface_named c.in_ok-tokens.tokens i c.in_ok-tokens.ensures.spelled spelled)
    c.read_interface.ensures.answers c.named_tree.ensures
