use Rattle.text.proofs.+put_right.Given as goal

abbrev pub decreases-put_right : goal.decreases-put_right
decreases-put_right l = l.n
