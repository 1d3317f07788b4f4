mod SilenceLemmas
