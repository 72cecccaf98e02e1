use Rattle.std.proofs.Common.{length}
use Rattle.edit_words.proofs.forms.+fits.Given as goal

abbrev pub decreases-fits : goal.decreases-fits
decreases-fits l = length l.slots.now
