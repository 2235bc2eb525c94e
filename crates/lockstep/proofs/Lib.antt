mod RoundAnswers
