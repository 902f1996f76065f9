mod OsRising
